-- What a turn of a walk answers.
use Rattle.std.specs.Prelude.{◌≡◌, ◌≤◌, ◌<◌, ℕ, List, length, Some, slice_get}
use Rattle.asn1_table_names.specs.declared.frames.Advance.{Advance}
use Rattle.asn1_table_names.specs.declared.frames.Advance.TheVariants.{Found}
use Rattle.asn1_table_names.specs.declared.frames.Turn.{Turn}
use Rattle.asn1_table_names.specs.declared.frames.Turn.TheVariants.{Answer}
use Rattle.asn1_table_tape.specs.declared.tape.Event.{Event}

-- An answer has this event.
abbrev pub IsWith : Event → Turn → Type 0
IsWith e (Answer n) = n.event.now ≡ e
IsWith e t = Unit {0}

-- What is found is the event at its index of a tape, and that is none before another index.
abbrev pub IsFound : List Event → ℕ → Advance → Type 0
IsFound es from (Found i n) = (from ≤ i) × (i < length es) × (slice_get es i ≡ Some n.event.now)
IsFound es from a = Unit {0}
