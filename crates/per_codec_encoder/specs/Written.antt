-- What a writer holds after the records of a value, at whatever depth its type is unfolded: the canonical bits.
use Rattle.std.specs.Prelude.{◌≡◌, ◌↔◌, ℕ, Bool, cond, List, [], ◌∷◌, Option, Some, None, option_and_then}
use Rattle.asn1_model.specs.Schema.{Schema}
use Rattle.asn1_model.specs.Value.{Value}
use Rattle.asn1_model.specs.Normal.{normal}
use Rattle.asn1_model.specs.Form.{written}
use Rattle.asn1_model.specs.Per
use Rattle.asn1_model.specs.Rules.{Rules, uper, aper, uper_strict, aper_strict, of_moderate_length}
use Rattle.asn1_schema_errors.specs.declared.EncodeError.{EncodeError}
use Rattle.asn1_schema_errors.specs.declared.EncodeError.TheVariants.{OutOfMemory}
use Rattle.asn1_schema_encode.specs.Writes.{Writes, CannotWrite}
use Rattle.asn1_schema_encode.specs.Written.{IsWrittenIn}
use Rattle.asn1_schema_laws.specs.Records.{Record}
use Rattle.asn1_schema_laws.specs.Presents.{Fits}
use Rattle.asn1_schema_laws.specs.Tables.{IsValue}
use Rattle.per_codec_packing.specs.FieldLists.{as_field_list}
use Rattle.per_codec_encoder.specs.Steps.{State, Step}
use Rattle.per_codec_encoder.specs.Ties.{octets_of}

-- The canonical bits of a value from the start of a message, before it is padded.
abbrev pub canonical_bits : Bool → Schema → Value → Option (List Bool)
canonical_bits al s v = written (Per.form al s (normal s v)) 0

-- From nothing, the records of a value lead exactly to its bits, with no open scope.
abbrev pub WrittenByRecords : Type 0
WrittenByRecords = (al : Bool) (schema : ℕ → Schema) (v : Value) (new : State) → IsValue schema v
    → Writes (Step al) schema v ([], []) new
    ↔ ((w : List Bool) × (new ≡ (as_field_list w, []))
    × ((n : ℕ) → Fits (schema n) v → canonical_bits al (schema n) v ≡ Some w))

-- They are refused, other than for memory, exactly if the value has no bits.
abbrev pub RefusedByRecords : Type 0
RefusedByRecords = (al : Bool) (schema : ℕ → Schema) (v : Value) (x : EncodeError) → IsValue schema v
    → ¬ (x ≡ OutOfMemory) → CannotWrite (Step al) schema v ([], []) x
    ↔ ((n : ℕ) → Fits (schema n) v → canonical_bits al (schema n) v ≡ None)

-- A writer, by its variant and what it holds: if it takes a record, that is a step, and if it is ready, it takes each
-- record after which there is a state.
pub record IsWriter {S : Type 0} (step : S → Record → S → Type 0) (aligned : S → Bool) (held : S → State)
    (Ready : S → Type 0) : Type 0 where
  pub takes : (a : S) (r : Record) (b : S) → step a r b
      → Step (aligned a) (held a) r (held b) × (aligned b ≡ aligned a) × Ready b
  pub takes_all : (a : S) (r : Record) (m : State) → Ready a → Step (aligned a) (held a) r m
      → (b : S) × step a r b × (held b ≡ m)

-- The rules of a variant, which have one writer.
abbrev pub packed_rules : Bool → List Rules
packed_rules al = cond al aper uper ∷ cond al aper_strict uper_strict ∷ []

-- A writer that held nothing holds the canonical encoding of the value, once it is padded to octets; the bound on
-- their length is not checked.
abbrev pub WritesTheOctets : {S : Type 0} → (S → Record → S → Type 0) → (S → Bool) → (S → State) → Type 0
WritesTheOctets {S} step aligned held = (schema : ℕ → Schema) (v : Value) (old new : S) → IsValue schema v
    → held old ≡ ([], []) → Writes step schema v old new
    → ((held new).1 ≡ [])
    × IsWrittenIn (packed_rules (aligned old)) schema v (option_and_then of_moderate_length (octets_of (held new)))

-- It refuses a value, other than for memory, only if that has no encoding.
abbrev pub RefusesOnlyNone : {S : Type 0} → (S → Record → S → Type 0) → (S → Bool) → (S → State) → (S → Type 0) → Type 0
RefusesOnlyNone {S} step aligned held Ready = (schema : ℕ → Schema) (v : Value) (old : S) (x : EncodeError)
    → IsValue schema v → Ready old → held old ≡ ([], []) → ¬ (x ≡ OutOfMemory) → CannotWrite step schema v old x
    → IsWrittenIn (packed_rules (aligned old)) schema v None
