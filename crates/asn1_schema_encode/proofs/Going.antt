-- A state that follows what was written has not failed.
use Rattle.std.proofs.Common.{◌≡◌, ℕ, ◌≤◌, Result, Err, IsErrAnd, sym, ap, arith}
use Rattle.asn1_model.specs.Value.{Value, depth}
use Rattle.asn1_model.specs.Schema.{Presence, Schema}
use Rattle.asn1_schema_laws.specs.Records.{Record}
use Rattle.asn1_schema_laws.specs.Presents.{Part}
use Rattle.asn1_schema_laws.specs.Tables.{IsValue}
use Rattle.asn1_schema_laws.specs.Typed.{IsPart, part_depth}
use Rattle.asn1_schema_laws.specs.Chains.{GoesOn}
use Rattle.asn1_schema_laws.proofs.Chains.{failed_before}
use Rattle.asn1_schema_encode.specs.Writes.{Writes, WritesPart}

-- what follows from the error that a `?` passes on
pub passed : {T U E P : Type 0} {x e : E} {r : Result T E} → IsErrAnd r (λ y. y ≡ x) → ((let s : Result U E = Err x in s) ≡ Err e → P) → r ≡ Err e → P
passed {U = U} {E = E} {x = x} {e = e} h f q =
    let k : e ≡ x = rw q at h in
    f (ap (λ (y : E). let s : Result U E = Err y in s) (sym k))

module _ {S : Type 0} {step : S → Record → S → Type 0} {has_failed : S → Type 0} (law : GoesOn step has_failed) where
  -- a state that has failed after a value had failed before it
  pub failed_before_value : {s : ℕ → Schema} {v : Value} {a b : S} → IsValue s v → Writes step s v a b → has_failed b → has_failed a
  failed_before_value {s} {v} {a} {b} i w f =
      let le : depth v ≤ depth v = omega arith in
      failed_before law _ a b (w.chain (depth v) (i.fits (depth v) le)) f

  -- and the same for a component
  pub failed_before_part : {o : Presence} {s : ℕ → Schema} {x : Part} {a b : S} → IsPart o s x → WritesPart step o s x a b → has_failed b → has_failed a
  failed_before_part {o} {s} {x} {a} {b} i w f =
      let le : part_depth x ≤ part_depth x = omega arith in
      failed_before law _ a b (w.chain (part_depth x) (i.fits (part_depth x) le)) f
