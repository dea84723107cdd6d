-- Why unknown additions are not skipped (X.696 16.4).
use Rattle.std.specs.Prelude.{◌≡◌, ℕ, Bool, List}
use Rattle.asn1_model.specs.Oer
use Rattle.asn1_schema_errors.specs.declared.DecodeError.{DecodeError}
use Rattle.asn1_schema_errors.specs.declared.DecodeError.TheVariants.{AlreadyFailed, OutOfMemory}
use Rattle.oer_codec_laws.specs.Takes.{Skips}

-- Out of memory, or the octets do not begin with those of these presence bits. It does not know of earlier errors.
pub record SkipsNone (free : Oer.Freedom → Bool) (us : List Bool) (os : List ℕ) (e : DecodeError) : Type 0 where
  pub none : ¬ (e ≡ OutOfMemory) → (rest : List ℕ) → Skips free us os rest → ⊥
  pub fresh : ¬ (e ≡ AlreadyFailed)
