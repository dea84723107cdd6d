-- What a walk over a tape gives.
use Rattle.std.specs.Prelude.{◌≡◌, ◌<◌, ◌≤◌, ◌-◌, ◌⊎◌, ℕ, true, List, length, Option, Some, Result}
use Rattle.std.specs.Prelude.{IfOk, IfSome, IfNone, slice_get}
use Rattle.asn1_table_names.specs.declared.events.NamedEvent.{NamedEvent}
use Rattle.asn1_table_names.specs.declared.events.WalkError.{WalkError}
use Rattle.asn1_table_names.specs.declared.walk.NamedEvents.{NamedEvents}
use Rattle.asn1_table_tape.specs.declared.tape.Event.{Event}

-- An event is the last one before an index of the tape, and none of those before another index.
abbrev pub IsTaken : List Event → ℕ → ℕ → Event → Type 0
IsTaken es from to e = (from < to) × (slice_get es (to - 1) ≡ Some e)

-- An event that is answered is a later one of the same tape. The walk ends after an error, or at the end of the tape.
pub record NextEvent (old : NamedEvents) (r : Option (Result NamedEvent WalkError)) (new : NamedEvents) : Type 0 where
  pub tape : new.tape ≡ old.tape
  pub event : IfSome r (λ x. IfOk x (λ n. IsTaken old.tape.now old.position new.position n.event.now))
  pub end : IfNone r ((old.has_stopped ≡ true) ⊎ (length old.tape.now ≤ new.position))
