-- A state that follows additions that were written has not failed.
use Rattle.std.proofs.Common.{ℕ, ◌≤◌, suc, refl, arith}
use Rattle.asn1_model.specs.Value.{fields, Parts, end, depth}
use Rattle.asn1_model.specs.Schema.{Presence, Schema}
use Rattle.asn1_schema_laws.specs.Additions.{group_type}
use Rattle.asn1_schema_laws.specs.Records.{Record}
use Rattle.asn1_schema_laws.specs.Presents.{Part, Fits, PartsFit}
use Rattle.asn1_schema_laws.specs.Tables.{Table, components_at, scope, sequence_type, IsValue}
use Rattle.asn1_schema_laws.specs.Typed.{IsPart, part_depth}
use Rattle.asn1_schema_laws.specs.Chains.{GoesOn}
use Rattle.asn1_schema_laws.proofs.Chains.{failed_before}
use Rattle.asn1_schema_encode.specs.Writes.{Writes}
use Rattle.asn1_schema_authored.specs.Writes.{WritesAddition}

module _ {S : Type 0} {step : S → Record → S → Type 0} {has_failed : S → Type 0} (law : GoesOn step has_failed) where
  -- a state that has failed after an addition had failed before it
  pub failed_before_addition : {o : Presence} {s : ℕ → Schema} {x : Part} {a b : S} → IsPart o s x → WritesAddition step o s x a b → has_failed b → has_failed a
  failed_before_addition {o} {s} {x} {a} {b} i w f =
      let le : part_depth x ≤ part_depth x = omega arith in
      failed_before law _ a b (w.chain (part_depth x) (i.fits (part_depth x) le)) f

  -- the same for the components of a group
  pub failed_before_group : (t : Table) {ps : Parts} {a b : S} → IsValue (sequence_type t) (fields ps end) → Writes step (group_type t) (fields ps end) a b → has_failed b → has_failed a
  unfolding group_type sequence_type scope Fits
  failed_before_group t {ps} {a} {b} i w f =
      let m : ℕ = depth (fields ps end) in
      let le : depth (fields ps end) ≤ suc m = omega arith in
      let root : PartsFit (components_at m t.root) ps = (i.fits (suc m) le).0 in
      failed_before law _ a b (w.chain (suc m) (root, refl)) f
