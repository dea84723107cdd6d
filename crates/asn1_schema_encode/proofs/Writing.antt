-- How what an encoder accepts is put together.
use Rattle.std.proofs.Common.{◌≡◌, ℕ, zero, suc, Bool, true, false, List, ◌++◌, refl, subst, sym}
use Rattle.asn1_model.specs.Value.{Value, fields, Parts, end, same}
use Rattle.asn1_model.specs.Schema.{Tag, Presence, required, optional, by_default, Schema}
use Rattle.asn1_model.specs.Normal.{normal, is_at_default}
use Rattle.asn1_model.specs.Normal.{is_required}
use Rattle.asn1_schema_errors.specs.declared.EncodeError.{EncodeError}
use Rattle.asn1_schema_laws.specs.Records.{Record, presence_bit, ends}
use Rattle.asn1_schema_laws.specs.Presents.{Part, left_out, there, with_part, presents, part_records, root_records, added_records, Fits}
use Rattle.asn1_schema_laws.specs.Tables.{Table, no_table, with_field, components_at, optional_field_count, IsType, IsValue}
use Rattle.asn1_schema_laws.specs.Forms.{Form, constructed_type, begins}
use Rattle.asn1_schema_laws.specs.Chains.{Chain, OneAfter}
use Rattle.asn1_schema_laws.proofs.Chains.{chain_append, chain_split, chain_rest}
use Rattle.asn1_schema_laws.specs.Parts.{part_unless, tail_records}
use Rattle.asn1_schema_encode.specs.Writes.{Refused, Writes, CannotWrite, WritesPart, CannotWritePart, WritesPresent, CannotWritePresent, WritesUnless, CannotWriteUnless, WritesTail, CannotWriteTail}
use Rattle.asn1_schema_laws.proofs.Values.{not_empty}
use Rattle.asn1_schema_laws.proofs.Forms.{no_fields, tail_fits_form, form_records}
use Rattle.asn1_schema_laws.proofs.Joined.{is_there, nothing_noted, tail_field, tail_fits, there_records, present_records}

module _ {S : Type 0} {step : S → Record → S → Type 0} where
  pub writes_required : {ts : List Tag} {s : ℕ → Schema} {v : Value} {a b : S} → IsType ts s → Writes step s v a b → WritesPart step required s (there v) a b
  writes_required {ts} {s} {v} {a} {b} t h =
      record {
        chain = λ n f. subst (λ rs. Chain step rs a b)
            (sym (there_records required (s n) v (nothing_noted required (s n) v (not_empty (s n) (normal (s n) v) (t.no_group n)) refl))) (h.chain n f);
      }

  pub cannot_required : {ts : List Tag} {s : ℕ → Schema} {v : Value} {a : S} {e : EncodeError} → IsType ts s → CannotWrite step s v a e → CannotWritePart step required s (there v) a e
  cannot_required {ts} {s} {v} {a} {e} t h =
      record {
        none = λ w n b f p. h.none w n b f
            (subst (λ rs. Chain step rs a b) (there_records required (s n) v (nothing_noted required (s n) v (not_empty (s n) (normal (s n) v) (t.no_group n)) refl)) p);
      }

  pub writes_end : {a b : S} → step a ends b → WritesTail step no_table end end a b
  unfolding components_at root_records added_records
  writes_end {b = b} h = record { chain = λ n f. (b, h, refl) }

  pub cannot_end : {a : S} {e : EncodeError} → Refused step ends a e → CannotWriteTail step no_table end end a e
  unfolding components_at root_records added_records
  cannot_end h = record { none = λ w n b f p. h.none w p.0 p.1 }

  pub writes_field : (ts : List Tag) {o : Presence} {s : ℕ → Schema} {t : Table} {x : Part} {ps qs : Parts} {a b c : S} →
      WritesPart step o s x a b → WritesTail step t ps qs b c → WritesTail step (with_field ts o s t) (with_part x ps) qs a c
  writes_field ts {o} {s} {t} {x} {ps} {qs} {a} {b} {c} h k = record {
    chain = λ n f.
        let g = tail_fits n ts o s t x ps qs f in
        subst (λ rs. Chain step rs a c) (sym (tail_field n ts o s t x ps qs)) (chain_append step _ _ a b c (h.chain n g.0) (k.chain n g.1));
  }

  pub cannot_field_here : (ts : List Tag) {o : Presence} {s : ℕ → Schema} (t : Table) {x : Part}
      (ps qs : Parts) {a : S} {e : EncodeError} → CannotWritePart step o s x a e → CannotWriteTail step (with_field ts o s t) (with_part x ps) qs a e
  cannot_field_here ts {o} {s} t {x} ps qs {a} h = record {
    none = λ w n c f p.
        let g = tail_fits n ts o s t x ps qs f in
        let r = chain_split step (part_records (λ v. presents (s n) v) o (s n) x) (tail_records n t ps qs) a c (subst (λ rs. Chain step rs a c) (tail_field n ts o s t x ps qs) p) in
        h.none w n r.0 g.0 r.1;
  }

  module _ (one : OneAfter step) where
    pub cannot_later : (xs ys : List Record) (a b c : S) → Chain step xs a b → (Chain step ys b c → ⊥) → Chain step (xs ++ ys) a c → ⊥
    cannot_later xs ys a b c h k p = k (chain_rest step one _ _ _ _ _ h p)

    pub cannot_field : (ts : List Tag) {o : Presence} {s : ℕ →
        Schema} {t : Table} {x : Part} {ps qs : Parts} {a b : S} {e : EncodeError} → WritesPart step o s x a b →
        CannotWriteTail step t ps qs b e → CannotWriteTail step (with_field ts o s t) (with_part x ps) qs a e
    cannot_field ts {o} {s} {t} {x} {ps} {qs} {a} {b} h k = record {
      none = λ w n c f p.
          let g = tail_fits n ts o s t x ps qs f in
          cannot_later _ _ a b c (h.chain n g.0) (k.none w n c g.1) (subst (λ rs. Chain step rs a c) (tail_field n ts o s t x ps qs) p);
    }

-- components that may be absent
module _ {S : Type 0} {step : S → Record → S → Type 0} where
  pub writes_left_out : (o : Presence) (s : ℕ → Schema) {a b : S} → step a (presence_bit false) b → WritesPart step o s left_out a b
  writes_left_out required s h = record { chain = λ n f. absurd (let z : true ≡ false = f in cc) }
  writes_left_out optional s {b = b} h = record { chain = λ n f. (b, h, refl) }
  writes_left_out (by_default d) s {b = b} h = record { chain = λ n f. (b, h, refl) }

  pub cannot_presence_bit : (o : Presence) (s : ℕ → Schema) (x : Part) (b : Bool) {a : S} {e : EncodeError} → is_required o
      ≡ false → b ≡ is_there x → Refused step (presence_bit b) a e → CannotWritePart step o s x a e
  cannot_presence_bit required s x b r h k = let z : true ≡ false = r in cc
  cannot_presence_bit optional s left_out b r h k = record { none = λ w n c f p. k.none w p.0 (rw h p.1) }
  cannot_presence_bit optional s (there v) b r h k = record { none = λ w n c f p. k.none w p.0 (rw h p.1) }
  cannot_presence_bit (by_default d) s left_out b r h k = record { none = λ w n c f p. k.none w p.0 (rw h p.1) }
  cannot_presence_bit (by_default d) s (there v) b r h k = record { none = λ w n c f p. k.none w p.0 (rw h p.1) }

  pub writes_there : {ts : List Tag} (o : Presence) {s : ℕ → Schema} {v : Value} {a b c : S} → is_required o ≡ false → IsType ts s →
      ((n : ℕ) → is_at_default o (s n) v ≡ false) → step a (presence_bit true) b → Writes step s v b c → WritesPart step o s (there v) a c
  writes_there o {s} {v} {a} {b} {c} r t d m h =
      record {
        chain = λ n f. subst (λ rs. Chain step rs a c)
            (sym (present_records o (s n) v r (nothing_noted o (s n) v (not_empty (s n) (normal (s n) v) (t.no_group n)) (d n)))) (b, m, h.chain n f);
      }

-- SEQUENCE and SET types, by their tables
module _ {S : Type 0} (step : S → Record → S → Type 0) (k : Form) (t : Table) {x : Bool} {i : ℕ} (e : i ≡ optional_field_count t.root) (f : t.extensible ≡ x) where
  by_table : {a b : S} → step a (begins k x i) b → step a (begins k t.extensible (optional_field_count t.root)) b
  by_table {a} {b} h = subst (λ (j : ℕ). step a (begins k t.extensible j) b) e (subst (λ (y : Bool). step a (begins k y i) b) (sym f) h)

  not_by_table : {a b : S} → step a (begins k t.extensible (optional_field_count t.root)) b → step a (begins k x i) b
  not_by_table {a} {b} h = subst (λ (j : ℕ). step a (begins k x j) b) (sym e) (subst (λ (y : Bool). step a (begins k y (optional_field_count t.root)) b) f h)

  pub writes_constructed : {ps qs : Parts} {a b c : S} → step a (begins k x i) b → WritesTail step t ps qs b c → Writes step (constructed_type k t) (fields ps qs) a c
  writes_constructed {ps} {qs} {a} {b} {c} h w = record {
    chain = λ n. elim n as (λ n. Fits (constructed_type k t n) (fields ps qs) → Chain step (presents (constructed_type k t n) (fields ps qs)) a c) [
      | zero ↦ λ g. absurd (no_fields t k (fields ps qs) g)
      | suc j ↦ λ g. subst (λ rs. Chain step rs a c) (sym (form_records t j k ps qs)) (b, by_table h, w.chain j (tail_fits_form t j k ps qs g))
    ];
  }

  pub cannot_constructed_here : (ps qs : Parts) {a : S} {y : EncodeError} → Refused step (begins k x i) a y → CannotWrite step (constructed_type k t) (fields ps qs) a y
  cannot_constructed_here ps qs {a} h = record {
    none = λ w n c. elim n as (λ n. Fits (constructed_type k t n) (fields ps qs) → Chain step (presents (constructed_type k t n) (fields ps qs)) a c → ⊥) [
      | zero ↦ λ g p. no_fields t k (fields ps qs) g
      | suc j ↦ λ g p. let q = subst (λ rs. Chain step rs a c) (form_records t j k ps qs) p in h.none w q.0 (not_by_table q.1)
    ];
  }

  pub cannot_constructed : OneAfter step → {ps qs : Parts} {a b : S} {y : EncodeError} → step a (begins k x i) b →
      CannotWriteTail step t ps qs b y → CannotWrite step (constructed_type k t) (fields ps qs) a y
  cannot_constructed one {ps} {qs} {a} {b} h z = record {
    none = λ w n c. elim n as (λ n. Fits (constructed_type k t n) (fields ps qs) → Chain step (presents (constructed_type k t n) (fields ps qs)) a c → ⊥) [
      | zero ↦ λ g p. no_fields t k (fields ps qs) g
      | suc j ↦ λ g p.
          let q = subst (λ rs. Chain step rs a c) (form_records t j k ps qs) p in
          z.none w j c (tail_fits_form t j k ps qs g) (subst (λ (s : S). Chain step (tail_records j t ps qs) s c) (one a (begins k x i) q.0 b (not_by_table q.1) h) q.2)
    ];
  }

-- another form of the same type
pub writes_as : {S : Type 0} {step : S → Record → S → Type 0} (s t : ℕ → Schema) {v : Value} {a b : S} → ((n : ℕ) → t n ≡ s n) → Writes step s v a b → Writes step t v a b
writes_as {step = step} s t {v} {a} {b} e h = record { chain = λ n. subst (λ (x : Schema). Fits x v → Chain step (presents x v) a b) (sym (e n)) (h.chain n) }

pub cannot_as : {S : Type 0} {step : S → Record → S → Type 0} (s t : ℕ → Schema) {v : Value} {a : S} {x : EncodeError} → ((n : ℕ) → t n ≡ s n) → CannotWrite step s v a x → CannotWrite step t v a x
cannot_as {step = step} s t {v} {a} e h = record { none = λ m n c. subst (λ (x : Schema). Fits x v → Chain step (presents x v) a c → ⊥) (sym (e n)) (h.none m n c) }

-- components after a presence bit, under given constraints
module _ {S : Type 0} {step : S → Record → S → Type 0} {s : ℕ → Schema} {v : Value} where
  pub writes_present : {a b c : S} → step a (presence_bit true) b → Writes step s v b c → WritesPresent step s v a c
  writes_present {b = b} m h = record { behind_presence_bit = b; presence_bits = m; writes = h }

  pub cannot_present_here : {a : S} {x : EncodeError} → Refused step (presence_bit true) a x → CannotWritePresent step s v a x
  cannot_present_here h = record { none = λ w n b c m f p. h.none w b m }

  pub cannot_present : OneAfter step → {a b : S} {x : EncodeError} → step a (presence_bit true) b → CannotWrite step s v b x → CannotWritePresent step s v a x
  cannot_present one {a} {b} m h = record { none = λ w n y c k f p. h.none w n c f (subst (λ (z : S). Chain step (presents (s n) v) z c) (one a (presence_bit true) y b k m) p) }

  -- what follows a presence bit under a type's own constraints is a component of the type
  pub part_present : {ts : List Tag} (o : Presence) {t : ℕ → Schema} {a c : S} → is_required o ≡ false → IsType ts t →
      ((n : ℕ) → is_at_default o (t n) v ≡ false) → ((n : ℕ) → t n ≡ s n) → WritesPresent step s v a c → WritesPart step o t (there v) a c
  part_present o {t} r k d e h = writes_there o r k d h.presence_bits (writes_as s t e h.writes)

  pub cannot_part_present : {ts : List Tag} (o : Presence) {t : ℕ → Schema} {a : S} {x : EncodeError} → is_required o ≡ false →
      IsType ts t → ((n : ℕ) → is_at_default o (t n) v ≡ false) → ((n : ℕ) → t n ≡ s n) → CannotWritePresent step s v a x → CannotWritePart step o t (there v) a x
  cannot_part_present o {t} {a} r k d e h = record {
    none = λ w n c f p.
        let q = subst (λ rs. Chain step rs a c) (present_records o (t n) v r (nothing_noted o (t n) v (not_empty (t n) (normal (t n) v) (k.no_group n)) (d n))) p in
        h.none w n q.0 c q.1 (subst (λ (y : Schema). Fits y v) (e n) f) (subst (λ (y : Schema). Chain step (presents y v) q.0 c) (e n) q.2);
  }

  pub part_unless_equal : {ts : List Tag} {d : Value} (b : Bool) {t : ℕ → Schema} {a c : S} → IsType ts t → IsValue t v →
      IsValue t d → b ≡ same v d → ((n : ℕ) → t n ≡ s n) → WritesUnless b step s v a c → WritesPart step (by_default d) t (part_unless b v) a c
  part_unless_equal {d = d} true {t} k i j q e h = writes_left_out (by_default d) t h
  part_unless_equal {d = d} false k i j q e h = part_present (by_default d) refl k (λ n. rw (i.normal n, j.normal n) (sym q)) e h

  pub cannot_part_unless_equal : {ts : List Tag} {d : Value} (b : Bool) {t : ℕ → Schema} {a : S} {x : EncodeError} → IsType ts t →
      IsValue t v → IsValue t d → b ≡ same v d → ((n : ℕ) → t n ≡ s n) → CannotWriteUnless b step s v a x → CannotWritePart step (by_default d) t (part_unless b v) a x
  cannot_part_unless_equal {d = d} true {t} k i j q e h = cannot_presence_bit (by_default d) t left_out false refl refl h
  cannot_part_unless_equal {d = d} false k i j q e h = cannot_part_present (by_default d) refl k (λ n. rw (i.normal n, j.normal n) (sym q)) e h
