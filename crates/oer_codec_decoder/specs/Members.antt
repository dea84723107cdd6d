-- What precedes the elements of a list (X.696 17).
use Rattle.std.specs.Prelude.{◌≡◌, ℕ, Bool, true, List}
use Rattle.asn1_model.specs.Schema.{Counts}
use Rattle.asn1_model.specs.Numbers.{is_count_within}
use Rattle.asn1_model.specs.Oer
use Rattle.asn1_schema_errors.specs.declared.DecodeError.{DecodeError}
use Rattle.asn1_schema_errors.specs.declared.DecodeError.TheVariants.{AlreadyFailed, OutOfMemory}
use Rattle.oer_codec_reading.specs.Fronts.{Stands}
use Rattle.oer_codec_laws.specs.Takes.{Scope, members}

-- A number of elements that the user-defined type can hold, and the scope that it opens.
abbrev pub HasMembers : (Oer.Freedom → Bool) → Counts → Scope → List ℕ → List ℕ → Type 0
HasMembers free h (members n) os rest = (is_count_within h n ≡ true) × Stands free (Oer.unsigned n) os rest
HasMembers free h s os rest = ⊥

-- Why there is none: memory ran out, or the octets do not begin with such a number. What looks for it does not know of
-- earlier errors.
pub record NoMembers (free : Oer.Freedom → Bool) (h : Counts) (os : List ℕ) (e : DecodeError) : Type 0 where
  pub none : ¬ (e ≡ OutOfMemory) → (s : Scope) (rest : List ℕ) → HasMembers free h s os rest → ⊥
  pub fresh : ¬ (e ≡ AlreadyFailed)
