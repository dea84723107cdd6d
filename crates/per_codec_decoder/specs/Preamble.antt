-- What precedes the components of a sequence, set or group (X.691 19.1 to 19.3).
use Rattle.std.specs.Prelude.{◌≡◌, ℕ, Bool, length}
use Rattle.asn1_model.specs.Form.{exactly}
use Rattle.std.specs.Prelude.{is_some}
use Rattle.asn1_model.specs.Per
use Rattle.asn1_schema_errors.specs.declared.DecodeError.{DecodeError}
use Rattle.asn1_schema_errors.specs.declared.DecodeError.TheVariants.{OutOfMemory}
use Rattle.asn1_schema_reading_laws.specs.PresenceBits.{preamble_bits}
use Rattle.per_codec_laws.specs.Takes.{Position, Scope, components, Front}

-- The extension bit, if there is one, and a number of presence bits, and the scope that they open.
abbrev pub HasPreamble : (Per.Freedom → Bool) → Bool → ℕ → Scope → Position → Position → Type 0
HasPreamble free e n (components x ms) a b = (is_some x ≡ e) × (length ms ≡ n)
    × Front free (exactly (preamble_bits x ms)) a b
HasPreamble free e n s a b = ⊥

-- Why there is none: memory ran out, or the bits end early.
abbrev pub NoPreamble : (Per.Freedom → Bool) → Bool → ℕ → Position → DecodeError → Type 0
NoPreamble free e n a x = ¬ (x ≡ OutOfMemory) → (s : Scope) (b : Position) → HasPreamble free e n s a b → ⊥
