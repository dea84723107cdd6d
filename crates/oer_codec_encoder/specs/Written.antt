-- What a writer holds after the records of a value, at whatever depth its type is unfolded: the canonical octets.
use Rattle.std.specs.Prelude.{◌≡◌, ◌↔◌, ℕ, List, [], ◌∷◌, Some, None}
use Rattle.asn1_model.specs.Schema.{Schema}
use Rattle.asn1_model.specs.Value.{Value}
use Rattle.asn1_model.specs.Normal.{normal}
use Rattle.asn1_model.specs.Rules.{Rules, oer, coer, octet_encoding, of_moderate_length}
use Rattle.asn1_schema_errors.specs.declared.EncodeError.{EncodeError}
use Rattle.asn1_schema_errors.specs.declared.EncodeError.TheVariants.{OutOfMemory}
use Rattle.asn1_schema_encode.specs.Writes.{Writes, CannotWrite}
use Rattle.asn1_schema_encode.specs.Written.{IsWrittenIn}
use Rattle.asn1_schema_laws.specs.Records.{Record}
use Rattle.asn1_schema_laws.specs.Presents.{Fits}
use Rattle.asn1_schema_laws.specs.Tables.{IsValue}
use Rattle.oer_codec_encoder.specs.Steps.{State, Step}

-- From nothing, the records of a value lead exactly to its octets, with no open scope.
abbrev pub WrittenByRecords : Type 0
WrittenByRecords = (schema : ℕ → Schema) (v : Value) (new : State) → IsValue schema v
    → Writes Step schema v ([], []) new ↔ ((new.1 ≡ [])
    × ((n : ℕ) → Fits (schema n) v → octet_encoding (schema n) (normal (schema n) v) ≡ Some new.0))

-- They are refused, other than for memory, exactly if the value has no octets.
abbrev pub RefusedByRecords : Type 0
RefusedByRecords = (schema : ℕ → Schema) (v : Value) (x : EncodeError) → IsValue schema v → ¬ (x ≡ OutOfMemory)
    → CannotWrite Step schema v ([], []) x ↔ ((n : ℕ) → Fits (schema n) v
    → octet_encoding (schema n) (normal (schema n) v) ≡ None)

-- A writer, by what it holds: if it takes a record, that is a step, and if it is ready, it takes each record after
-- which there is a state.
pub record IsWriter {S : Type 0} (step : S → Record → S → Type 0) (held : S → State) (Ready : S → Type 0) : Type 0 where
  pub takes : (a : S) (r : Record) (b : S) → step a r b → Step (held a) r (held b) × Ready b
  pub takes_all : (a : S) (r : Record) (m : State) → Ready a → Step (held a) r m → (b : S) × step a r b × (held b ≡ m)

-- The octet rules, which have one writer.
abbrev pub octet_rules : List Rules
octet_rules = oer ∷ coer ∷ []

-- A writer that held nothing holds the canonical octets of the value; the bound on their length is not checked.
abbrev pub WritesTheOctets : {S : Type 0} → (S → Record → S → Type 0) → (S → State) → Type 0
WritesTheOctets {S} step held = (schema : ℕ → Schema) (v : Value) (old new : S) → IsValue schema v → held old
    ≡ ([], []) → Writes step schema v old new → ((held new).1 ≡ [])
    × IsWrittenIn octet_rules schema v (of_moderate_length (held new).0)

-- It refuses a value, other than for memory, only if that has no octets.
abbrev pub RefusesOnlyNone : {S : Type 0} → (S → Record → S → Type 0) → (S → State) → (S → Type 0) → Type 0
RefusesOnlyNone {S} step held Ready = (schema : ℕ → Schema) (v : Value) (old : S) (x : EncodeError) → IsValue schema v
    → Ready old → held old ≡ ([], []) → ¬ (x ≡ OutOfMemory) → CannotWrite step schema v old x
    → IsWrittenIn octet_rules schema v None
