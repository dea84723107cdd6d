-- How the rest of a scope is skipped at its end (X.691 11.2, 19.8), and why it is not.
use Rattle.std.specs.Prelude.{◌≡◌, Bool, List}
use Rattle.asn1_model.specs.Per
use Rattle.asn1_schema_errors.specs.declared.DecodeError.{DecodeError}
use Rattle.asn1_schema_errors.specs.declared.DecodeError.TheVariants.{OutOfMemory}
use Rattle.per_codec_laws.specs.Takes.{Position, State, Scope, Closes, Skips}
use Rattle.per_codec_reading.specs.Closed.{IsClosed}
use Rattle.per_codec_decoder.specs.declared.frames.Ending.{Ending}
use Rattle.per_codec_decoder.specs.declared.frames.Ending.TheVariants.{Nothing, Unknown, OpenType as Padded}

-- What is left where a scope ends is passed over.
abbrev pub Passes : Bool → (Per.Freedom → Bool) → Ending → Position → Position → Type 0
Passes al free Nothing a b = b ≡ a
Passes al free (Unknown r) a b = Skips al free r.place.1 a b
Passes al free (Padded p) a b = IsClosed free a × (b ≡ p.place)

-- Why it is not skipped: memory ran out, or something else is there.
abbrev pub NotPassed : Bool → (Per.Freedom → Bool) → Ending → Position → DecodeError → Type 0
NotPassed al free Nothing a x = ⊥
NotPassed al free (Unknown r) a x = ¬ (x ≡ OutOfMemory) → (b : Position) → Skips al free r.place.1 a b → ⊥
NotPassed al free (Padded p) a x = (rest : Position) (k : List Scope) (b : State) → Closes free a rest k b → ⊥
