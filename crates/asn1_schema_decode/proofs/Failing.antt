-- A state that has failed after what was read had failed before it.
use Rattle.std.proofs.Common.{◌≡◌, ◌∙◌, sym, ℕ, Result, Ok, Err, IsErrAnd}
use Rattle.asn1_model.specs.Value.{Value}
use Rattle.asn1_model.specs.Schema.{Presence, Schema}
use Rattle.asn1_schema_laws.specs.Records.{Record}
use Rattle.asn1_schema_laws.specs.Presents.{Part}
use Rattle.asn1_schema_laws.specs.Chains.{GoesOn}
use Rattle.asn1_schema_laws.proofs.Chains.{failed_before}
use Rattle.asn1_schema_decode.specs.Reads.{Reads, ReadsPart}

-- what follows from an error that a `?` passes on
pub passed_on : {T E A : Type 0} {x e : E} (r : Result T E) → IsErrAnd r (λ y. y ≡ x) → (x ≡ e → A) → r ≡ Err e → A
passed_on (Ok v) h k q = cc
passed_on {E = E} {e = e} (Err y) h k q = let z : y ≡ e = cc in k (sym h ∙ z)

module _ {S : Type 0} {step : S → Record → S → Type 0} {has_failed : S → Type 0} (law : GoesOn step has_failed) where
  pub failed_reads : {s : ℕ → Schema} {n : ℕ} {v : Value} {a b : S} → Reads step s n v a b → has_failed b → has_failed a
  failed_reads {a = a} {b = b} r f = failed_before law _ a b r.chain f

  pub failed_part : {o : Presence} {s : ℕ → Schema} {n : ℕ} {x : Part} {a b : S} → ReadsPart step o s n x a b → has_failed b → has_failed a
  failed_part {a = a} {b = b} r f = failed_before law _ a b r.chain f
