-- What is encoded and decoded, by another name of the same type and value.
use Rattle.std.proofs.Common.{◌≡◌, ℕ, subst}
use Rattle.asn1_model.specs.Schema.{Schema}
use Rattle.asn1_model.specs.Value.{Value}
use Rattle.asn1_schema_errors.specs.declared.DecodeError.{DecodeError}
use Rattle.asn1_schema_errors.specs.declared.EncodeError.{EncodeError}
use Rattle.asn1_schema_laws.specs.Records.{Record}
use Rattle.asn1_schema_encode.specs.Writes.{Writes, CannotWrite}
use Rattle.asn1_schema_decode.specs.Reads.{Reads, Unread}

module _ {S : Type 0} {step : S → Record → S → Type 0} where
  pub writes_by : {s t : ℕ → Schema} {v w : Value} {a b : S} → s ≡ t → v ≡ w → Writes step s v a b → Writes step t w a b
  writes_by {s} {t} {v} {w} {a} {b} e f h = subst (λ (x : Value). Writes step t x a b) f (subst (λ (x : ℕ → Schema). Writes step x v a b) e h)

  pub cannot_by : {s t : ℕ → Schema} {v w : Value} {a : S} {x : EncodeError} → s ≡ t → v ≡ w → CannotWrite step s v a x → CannotWrite step t w a x
  cannot_by {s} {t} {v} {w} {a} {x} e f h = subst (λ (y : Value). CannotWrite step t y a x) f (subst (λ (y : ℕ → Schema). CannotWrite step y v a x) e h)

  pub reads_by : {s t : ℕ → Schema} {n : ℕ} {v w : Value} {a b : S} → s ≡ t → v ≡ w → Reads step s n v a b → Reads step t n w a b
  reads_by {s} {t} {n} {v} {w} {a} {b} e f h = subst (λ (x : Value). Reads step t n x a b) f (subst (λ (x : ℕ → Schema). Reads step x n v a b) e h)

  pub unread_by : {s t : ℕ → Schema} {n : ℕ} {few : S → S → S → Type 0} {a failed : S} {x : DecodeError} → s ≡ t → Unread step few s n a failed x → Unread step few t n a failed x
  unread_by {s} {t} {n} {few} {a} {failed} {x} e h = subst (λ (y : ℕ → Schema). Unread step few y n a failed x) e h
