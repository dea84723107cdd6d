-- How extension addition groups that an encoder accepts are put together.
use Rattle.std.proofs.Common.{◌≡◌, ℕ, zero, suc, Bool, true, false, [], ◌∷◌, refl, subst, sym, ◌∙◌}
use Rattle.asn1_model.specs.Value.{Value, fields, Parts, end}
use Rattle.asn1_model.specs.Schema.{optional, Schema, group}
use Rattle.asn1_model.specs.Normal.{is_group_left_out}
use Rattle.asn1_schema_errors.specs.declared.EncodeError.{EncodeError}
use Rattle.asn1_schema_laws.specs.Records.{Record, group_begins, ends}
use Rattle.asn1_schema_laws.specs.Presents.{left_out, there, presents, noted, root_records, Fits}
use Rattle.asn1_schema_laws.specs.Tables.{Table, components_at, optional_field_count, scope}
use Rattle.asn1_schema_laws.specs.Parts.{normal_part, part_unless}
use Rattle.asn1_schema_laws.specs.Typed.{IsPart}
use Rattle.asn1_schema_laws.specs.Chains.{Chain, OneAfter}
use Rattle.asn1_schema_laws.proofs.Joined.{optional_fields_at}
use Rattle.asn1_schema_encode.specs.Writes.{Refused, Writes, CannotWrite, WritesTail, CannotWriteTail}
use Rattle.asn1_schema_laws.specs.Additions.{group_type, IsGroup}
use Rattle.asn1_schema_authored.specs.Writes.{WritesEnclosed, CannotWriteEnclosed, WritesAddition, CannotWriteAddition}
use Rattle.asn1_schema_authored.proofs.Extending.{group_tail, group_fits}
use Rattle.asn1_schema_authored.proofs.Writing.{writes_addition, cannot_addition}

module _ {S : Type 0} {step : S → Record → S → Type 0} {t : Table} (g : IsGroup t) {k : ℕ} (e : k ≡ optional_field_count t.root) {ps qs : Parts} (q : qs ≡ end) where
  pub writes_group : {a b c : S} → step a (group_begins k) b → WritesTail step t ps qs b c → Writes step (group_type t) (fields ps end) a c
  unfolding group_type scope presents Fits
  writes_group {a} {b} {c} h w = record {
    chain = λ n. elim n as (λ n. Fits (scope n (λ m. group (components_at m t.root))) (fields ps end) → Chain step (presents (scope n (λ m. group (components_at m t.root))) (fields ps end)) a c) [
      | zero ↦ λ f. absurd f
      | suc j ↦ λ f. (
        b,
        subst (λ (i : ℕ). step a (group_begins i) b) (e ∙ sym (optional_fields_at j t.root)) h,
        subst (λ rs. Chain step rs b c)
            (group_tail j g ps q) (w.chain j (group_fits j g ps q f.0)),
      )
    ];
  }

  pub cannot_group_here : {a : S} {x : EncodeError} → Refused step (group_begins k) a x → CannotWrite step (group_type t) (fields ps end) a x
  unfolding group_type scope presents Fits
  cannot_group_here {a} h = record {
    none = λ w n c. elim n as (λ n. Fits (scope n (λ m. group (components_at m t.root))) (fields ps end) →
        Chain step (presents (scope n (λ m. group (components_at m t.root))) (fields ps end)) a c → ⊥) [
          | zero ↦ λ f p. f
          | suc j ↦ λ f p. h.none w p.0 (subst (λ (i : ℕ). step a (group_begins i) p.0) (optional_fields_at j t.root ∙ sym e) p.1)
        ];
  }

  pub cannot_group : OneAfter step → {a b : S} {x : EncodeError} → step a (group_begins k) b → CannotWriteTail step t ps qs b x → CannotWrite step (group_type t) (fields ps end) a x
  unfolding group_type scope presents Fits
  cannot_group one {a} {b} h z = record {
    none = λ w n c. elim n as (λ n. Fits (scope n (λ m. group (components_at m t.root))) (fields ps end) →
        Chain step (presents (scope n (λ m. group (components_at m t.root))) (fields ps end)) a c → ⊥) [
          | zero ↦ λ f p. f
          | suc j ↦ λ f p.
              let i = one a (group_begins k) p.0 b (subst (λ (i : ℕ). step a (group_begins i) p.0) (optional_fields_at j t.root ∙ sym e) p.1) h in
              let r = subst (λ (s : S). Chain step (root_records (components_at j t.root) ps (ends ∷ [])) s c) i p.2 in
              z.none w j c (group_fits j g ps q f.0) (subst (λ rs. Chain step rs b c) (sym (group_tail j g ps q)) r)
        ];
  }

-- no note follows a group that the normal form keeps
left_out_not : (s : Schema) (v : Value) (b : Bool) → is_group_left_out s v ≡ b → normal_part optional s (there v) ≡ there v → b ≡ false
left_out_not s v false e h = refl
left_out_not s v true e h = let k : left_out ≡ there v = rw e at h in cc

pub kept_noted : {s : ℕ → Schema} {v : Value} → IsPart optional s (there v) → (n : ℕ) → noted optional (s n) v ≡ []
kept_noted {s} {v} h n = let e = left_out_not (s n) v (is_group_left_out (s n) v) refl (h.normal n) in rw e refl

-- a group as an addition, by whether none of its components is present
module _ {S : Type 0} {step : S → Record → S → Type 0} {s : ℕ → Schema} {v : Value} {b : Bool} (h : IsPart optional s (part_unless b v)) (e : b ≡ false) where
  pub writes_kept : {a c : S} → WritesEnclosed step s v a c → WritesAddition step optional s (part_unless b v) a c
  writes_kept {a} {c} w = let h' : IsPart optional s (there v) = rw e at h in rw e (writes_addition optional s (kept_noted h') (λ n. refl) w)

  pub cannot_kept : {a : S} {x : EncodeError} → CannotWriteEnclosed step s v a x → CannotWriteAddition step optional s (part_unless b v) a x
  cannot_kept w = let h' : IsPart optional s (there v) = rw e at h in rw e (cannot_addition optional s (kept_noted h') (λ n. refl) w)
