-- How what a decoder finds is put together.
use Rattle.std.proofs.Common.{◌≡◌, ℕ, ◌+◌, ◌<◌, zero, suc, Bool, true, false, List, [], ◌∷◌, ◌++◌, refl, subst, sym, ◌∙◌, ap, arith}
use Rattle.asn1_model.specs.Value.{Value, fields, Parts, end, absent, present, same}
use Rattle.asn1_model.specs.Schema.{Tag, Presence, required, by_default, Schema}
use Rattle.asn1_model.specs.Normal.{normal, normal_parts, is_at_default, is_group_left_out}
use Rattle.asn1_model.specs.Normal.{is_required}
use Rattle.asn1_schema_errors.specs.declared.DecodeError.{DecodeError}
use Rattle.asn1_schema_laws.specs.Records.{Record, presence_bit, is_default, ends, asks_presence_bit, asks_end}
use Rattle.asn1_schema_laws.specs.Presents.{Part, left_out, there, with_part, presents, part_records, noted, root_records, added_records, Fits, PartFits, PartsFit}
use Rattle.asn1_schema_laws.specs.Parts.{part_unless, tail_records, TailFits}
use Rattle.asn1_schema_laws.specs.Tables.{Table, no_table, with_field, components_at, optional_field_count, IsType, IsValue}
use Rattle.asn1_schema_laws.specs.Forms.{Form, sequence_form, set_form, constructed_type, begins, asks}
use Rattle.asn1_schema_laws.specs.Chains.{Chain, OneRecord}
use Rattle.asn1_schema_laws.proofs.Chains.{chain_append, chain_split}
use Rattle.asn1_schema_laws.proofs.OneValue.{one_value, one_part}
use Rattle.asn1_schema_laws.proofs.Values.{not_empty, normal_field, fits_field}
use Rattle.asn1_schema_laws.proofs.Same.{same_self}
use Rattle.asn1_schema_decode.proofs.Carrying.{reads_part_near}
use Rattle.asn1_schema_decode.specs.Reads.{NoRecord, NoLevel, Reads, Unread, ReadsPart, UnreadPart, ReadsTail, UnreadTail}
use Rattle.asn1_schema_lacking_laws.specs.Carried.{keeps_members, CarriesRecords, CarriesValues}
use Rattle.asn1_schema_laws.proofs.Forms.{form_question, no_fields, form_fits, form_records, form_parts, normal_form}
use Rattle.asn1_schema_laws.proofs.Joined.{tail_field, nothing_noted, there_records, present_records}

not_at_end : {S : Type 0} (step : S → Record → S → Type 0) (n : ℕ) (ps qs : Parts) (a b : S) → TailFits n no_table ps qs → Chain step (tail_records n no_table ps qs) a b → (c : S) × step a ends c
unfolding components_at PartsFit root_records added_records
not_at_end step n end end a b f p = (p.0, p.1)
not_at_end step n end (present v qs) a b f p = absurd f.1
not_at_end step n end (absent qs) a b f p = absurd f.1
not_at_end step n (present v ps) qs a b f p = absurd f.0
not_at_end step n (absent ps) qs a b f p = absurd f.0

asked_alike : (k : Form) (t : Table) {x : Bool} {i : ℕ} → i ≡ optional_field_count t.root → t.extensible ≡ x → asks k t.extensible (optional_field_count t.root) ≡ asks k x i
asked_alike k t {x} {i} e f = ap (λ j. asks k t.extensible j) (sym e) ∙ ap (λ y. asks k y i) f

begins_keep : (k : Form) (x : Bool) (i : ℕ) → keeps_members (begins k x i) ≡ true
begins_keep sequence_form x i = refl
begins_keep set_form x i = refl

module _ {S : Type 0} {step : S → Record → S → Type 0} where
  -- ---- one component
  pub reads_required : {ts : List Tag} {s : ℕ → Schema} {n : ℕ} {v : Value} {a b : S} → IsType ts s → Reads step s n v a b → ReadsPart step required s n (there v) a b
  reads_required {ts} {s} {n} {v} {a} {b} t h =
      let g : is_group_left_out (s n) h.raw ≡ false = not_empty (s n) (normal (s n) h.raw) (t.no_group n) in
      record {
        raw = there h.raw;
        fits = h.fits;
        means = rw g (ap there h.means);
        chain = subst (λ rs. Chain step rs a b) (sym (there_records required (s n) h.raw (nothing_noted required (s n) h.raw g refl))) h.chain;
      }

  pub unread_required : {ts : List Tag} {s : ℕ → Schema} {n : ℕ} {few : S → S → S → Type 0} {a failed : S} {x : DecodeError} →
      IsType ts s → Unread step few s n a failed x → UnreadPart step few required s n a failed x
  unread_required {ts} {s} {n} {a} t h = record {
    none =
        λ w start near p b. elim p as (λ p. PartFits (λ v. Fits (s n) v) required p →
        Chain step (part_records (λ v. presents (s n) v) required (s n) p) start b →
        ⊥) [
          | left_out ↦ λ f q. let e : true ≡ false = f in
              cc
          | there v ↦ λ f q. h.none w start near v b f
              (subst (λ rs. Chain step rs start b) (there_records required (s n) v (nothing_noted required (s n) v (not_empty (s n) (normal (s n) v) (t.no_group n)) refl)) q)
        ];
  }

  pub reads_left_out : (o : Presence) (s : ℕ → Schema) (n : ℕ) {a b : S} → is_required o ≡ false → step a (presence_bit false) b → ReadsPart step o s n left_out a b
  reads_left_out o s n {a} {b} r h = record { raw = left_out; fits = r; means = refl; chain = rw r (b, h, refl) }

  pub reads_there : {ts : List Tag} (o : Presence) {s : ℕ → Schema} {n : ℕ} {v : Value} {a b c : S} → is_required o ≡ false →
      IsType ts s → step a (presence_bit true) b → (r : Reads step s n v b c) → is_at_default o (s n) r.raw ≡ false → ReadsPart step o s n (there v) a c
  reads_there o {s} {n} {v} {a} {b} {c} q t m h d =
      let g : is_group_left_out (s n) h.raw ≡ false = not_empty (s n) (normal (s n) h.raw) (t.no_group n) in
      record {
        raw = there h.raw;
        fits = h.fits;
        means = rw (d, g) (ap there h.means);
        chain = subst (λ rs. Chain step rs a c) (sym (present_records o (s n) h.raw q (nothing_noted o (s n) h.raw g d))) (b, m, h.chain);
      }

  -- a default that is spelled out
  pub reads_spelled : (o : Presence) {s : ℕ → Schema} {n : ℕ} {v : Value} {a b c d : S} → is_required o ≡ false →
      step a (presence_bit true) b → (r : Reads step s n v b c) → is_at_default o (s n) r.raw ≡ true → step c is_default d → ReadsPart step o s n left_out a d
  reads_spelled o {s} {n} {v} {a} {b} {c} {d} q m h e z = record {
    raw = there h.raw;
    fits = h.fits;
    means = rw e refl;
    chain = rw (q, e) (b, m, chain_append step (presents (s n) h.raw) (is_default ∷ []) b c d h.chain (d, z, refl));
  }

  pub unread_presence_bit : (o : Presence) (s : ℕ → Schema) (n : ℕ) {few : S → S → S → Type 0} {a failed : S} {x : DecodeError} →
      is_required o ≡ false → NoRecord step few asks_presence_bit a failed x → UnreadPart step few o s n a failed x
  unread_presence_bit o s n {a} r h = record {
    none =
        λ w start near p b. elim p as (λ p. PartFits (λ v. Fits (s n) v) o p →
        Chain step (part_records (λ v. presents (s n) v) o (s n) p) start b →
        ⊥) [
          | left_out ↦ λ f q. let q' : Chain step (presence_bit false ∷ []) start b = rw r at q in
              h.none w start near (presence_bit false) q'.0 refl q'.1
          | there v ↦ λ f q. let q' : Chain step
              (presence_bit true ∷ (presents (s n) v ++ noted o (s n) v)) start b = rw r at q in h.none w start near (presence_bit true) q'.0 refl q'.1
        ];
  }

  -- ---- the rest of a SEQUENCE
  pub reads_end : (n : ℕ) {a b : S} → step a ends b → ReadsTail step no_table n end end a b
  unfolding components_at root_records added_records PartsFit normal_parts
  reads_end n {a} {b} h = record { root = end; additions = end; fits = (tt, tt); means = refl; means_added = refl; chain = (b, h, refl) }

  pub reads_field : (ts : List Tag) {o : Presence} {s : ℕ → Schema} {t : Table} {n : ℕ} {x : Part} {ps qs : Parts} {a b c : S} →
      ReadsPart step o s n x a b → ReadsTail step t n ps qs b c → ReadsTail step (with_field ts o s t) n (with_part x ps) qs a c
  unfolding components_at
  reads_field ts {o} {s} {t} {n} {x} {ps} {qs} {a} {b} {c} h k = record {
    root = with_part h.raw k.root;
    additions = k.additions;
    fits = (fits_field ts o (s n) (components_at n t.root) h.raw k.root h.fits k.fits.0, k.fits.1);
    means = normal_field ts o (s n) (components_at n t.root) h.raw k.root ∙ ap (λ y. with_part y (normal_parts (components_at n t.root) k.root)) h.means ∙ ap (λ rs. with_part x rs) k.means;
    means_added = k.means_added;
    chain = subst (λ rs. Chain step rs a c) (sym (tail_field n ts o s t h.raw k.root k.additions)) (chain_append step _ _ a b c h.chain k.chain);
  }

  pub reads_constructed : (k : Form) (t : Table) {x : Bool} {i : ℕ} {ps qs : Parts} {m n : ℕ} {a b c : S} → i ≡ optional_field_count t.root →
      t.extensible ≡ x → m ≡ n + 1 → step a (begins k x i) b → ReadsTail step t n ps qs b c → Reads step (constructed_type k t) m (fields ps qs) a c
  reads_constructed k t {x} {i} {ps} {qs} {m} {n} {a} {b} {c} e f l h r =
      let h' = subst (λ (y : Bool). step a (begins k y i) b) (sym f) h in
      let y : Reads step (constructed_type k t) (suc n) (fields ps qs) a c = record {
        raw = fields r.root r.additions;
        fits = form_fits t n k r.root r.additions r.fits;
        means = normal_form t n k r.root r.additions
            ∙ ap (λ xs. fields xs (normal_parts (components_at n t.additions) r.additions)) r.means ∙ ap (λ xs. fields ps xs) r.means_added;
        chain = subst (λ rs. Chain step rs a c) (sym (form_records t n k r.root r.additions)) (b, subst (λ (j : ℕ). step a (begins k t.extensible j) b) e h', r.chain);
      } in
      subst (λ (j : ℕ). Reads step (constructed_type k t) j (fields ps qs) a c) (let z : suc n ≡ m = omega arith in z) y

  pub unread_end : (n : ℕ) {few : S → S → S → Type 0} {a failed : S} {x : DecodeError} → NoRecord step few asks_end a failed x → UnreadTail step few no_table n a failed x
  unread_end n {a} h = record { none = λ w start near ps qs b f p. let t = not_at_end step n ps qs start b f p in h.none w start near ends t.0 refl t.1 }

  -- parts, and what they are made of
  parts_of : (n : ℕ) (ts : List Tag) (o : Presence) (s : ℕ → Schema) (t : Table) (ps qs : Parts) (a c : S) →
      TailFits n (with_field ts o s t) ps qs → Chain step (tail_records n (with_field ts o s t) ps qs) a c →
      (x : Part) × (rs : Parts) × (m : S) × PartFits (λ v. Fits (s n) v) o x × TailFits n t rs qs
      × Chain step (part_records (λ v. presents (s n) v) o (s n) x) a m × Chain step (tail_records n t rs qs) m c
  unfolding components_at PartsFit root_records
  parts_of n ts o s t end qs a c f p = absurd f.0
  parts_of n ts o s t (absent ps) qs a c f p = let d =
      chain_split step (part_records (λ v. presents (s n) v) o (s n) left_out) (tail_records n t ps qs) a c p in (left_out, ps, d.0, f.0.0, (f.0.1, f.1), d.1, d.2)
  parts_of n ts o s t (present v ps) qs a c f p = let d =
      chain_split step (part_records (λ v. presents (s n) v) o (s n) (there v)) (tail_records n t ps qs) a c p in (there v, ps, d.0, f.0.0, (f.0.1, f.1), d.1, d.2)

  pub unread_field_here : (ts : List Tag) {o : Presence} {s : ℕ → Schema}
      (t : Table) {n : ℕ} {few : S → S → S → Type 0} {a failed : S} {x : DecodeError} → UnreadPart step few o s n a failed x → UnreadTail step few (with_field ts o s t) n a failed x
  unread_field_here ts {o} {s} t {n} {a} h = record { none = λ w start near ps qs c f p. let d = parts_of n ts o s t ps qs start c f p in h.none w start near d.0 d.2 d.3 d.5 }

  pub unread_constructed_here : (k : Form) (t : Table) {x : Bool} {i : ℕ} (m : ℕ) {few : S → S → S → Type 0} {a failed : S} {y : DecodeError} →
      i ≡ optional_field_count t.root → t.extensible ≡ x → NoLevel step few (asks k x i) m a failed y → Unread step few (constructed_type k t) m a failed y
  unread_constructed_here k t zero e f h = record { none = λ w start near v c g p. no_fields t k v g }
  unread_constructed_here k t {x} {i} (suc n) e f h = record {
    none = λ w start near v c g p.
        let q = form_parts t n k v g in
        let r = subst (λ rs. Chain step rs start c) q.3 p in
        h.none w start near (let z : 0 < suc n = omega arith in z) (begins k t.extensible (optional_field_count t.root)) r.0 (form_question k _ _ ∙ asked_alike k t e f) r.1;
  }

  module _ (one : OneRecord step) {few : S → S → S → Type 0} (carries : CarriesRecords step few) where
    -- where a component ends
    pub unread_present : (o : Presence) {s : ℕ → Schema} {n : ℕ} {a b failed : S} {x : DecodeError} → is_required o ≡ false →
        step a (presence_bit true) b → Unread step few s n b failed x → UnreadPart step few o s n a failed x
    unread_present o {s} {n} {a} {b} {failed} r m h = record {
      none = λ w start near p c.
          let y = carries (presence_bit true) a b failed start refl m near in
          elim p as (λ p. PartFits (λ v. Fits (s n) v) o p → Chain step (part_records (λ v. presents (s n) v) o (s n) p) start c → ⊥) [
            | left_out ↦ λ f q. let q' : Chain step (presence_bit false ∷ []) start c = rw r at q in let e : presence_bit false
                ≡ presence_bit true = (one start (presence_bit false) (presence_bit true) q'.0 y.0 refl q'.1 y.1).0 in cc
            | there v ↦ λ f q. let q' : Chain step (presence_bit true ∷ (presents (s n) v ++ noted o (s n) v)) start c = rw r at q in
                let e = (one start (presence_bit true) (presence_bit true) q'.0 y.0 refl q'.1 y.1).1 in
                let d = chain_split step (presents (s n) v) (noted o (s n) v) y.0 c (subst (λ (z : S). Chain step (presents (s n) v ++ noted o (s n) v) z c) e q'.2) in
                h.none w y.0 y.2 v d.0 f d.1
          ];
    }

    pub unread_constructed : (k : Form) (t : Table) {x : Bool} {i : ℕ} {m n : ℕ} {a b failed : S} {y : DecodeError} → i ≡ optional_field_count t.root →
        t.extensible ≡ x → m ≡ n + 1 → step a (begins k x i) b → UnreadTail step few t n b failed y → Unread step few (constructed_type k t) m a failed y
    unread_constructed k t {x} {i} {m} {n} {a} {b} {failed} {y} e f l h u =
        let r : Unread step few (constructed_type k t) (suc n) a failed y = record {
          none = λ w start near v c g p.
              let j = carries (begins k x i) a b failed start (begins_keep k x i) h near in
              let q = form_parts t n k v g in
              let r = subst (λ rs. Chain step rs start c) q.3 p in
              let o = form_question k t.extensible (optional_field_count t.root) ∙ asked_alike k t e f ∙ sym (form_question k x i) in
              let s = (one start (begins k t.extensible (optional_field_count t.root)) (begins k x i) r.0 j.0 o r.1 j.1).1 in
              u.none w j.0 j.2 q.0 q.1 c q.2 (subst (λ (z : S). Chain step (tail_records n t q.0 q.1) z c) s r.2);
        } in
        subst (λ (j : ℕ). Unread step few (constructed_type k t) j a failed y) (let z : suc n ≡ m = omega arith in z) r

    module _ (values : CarriesValues step few) where
      pub unread_field : (ts : List Tag) {o : Presence} {s : ℕ →
          Schema} {t : Table} {n : ℕ} {x : Part} {a b failed : S} {y : DecodeError} → ReadsPart step o s n x a b →
          UnreadTail step few t n b failed y → UnreadTail step few (with_field ts o s t) n a failed y
      unread_field ts {o} {s} {t} {n} {x} {a} {b} {failed} h k = record {
        none = λ w start near ps qs c f p.
            let i = reads_part_near carries values h near in
            let d = parts_of n ts o s t ps qs start c f p in
            let r = i.1 in
            let e = one_part one o (s n) (one_value one (s n)) d.0 r.raw start d.2 i.0 d.3 r.fits d.5 r.chain in
            k.none w i.0 i.2 d.1 qs c d.4 (subst (λ (z : S). Chain step (tail_records n t d.1 qs) z c) e.1 d.6);
      }

-- a value that is read where there may be a default: whether it is equal to this
pub at_default : {S : Type 0} {step : S → Record → S → Type 0} {s : ℕ → Schema} {n : ℕ} {v d : Value} {a b : S} {e : Bool} →
    IsValue s d → e ≡ same v d → (r : Reads step s n v a b) → is_at_default (by_default d) (s n) r.raw ≡ e
at_default k h r = rw (r.means, k.normal _) (sym h)

-- the default if it is absent, what is read and is not equal to it, and what is encoded although equal to it
module _ {S : Type 0} {step : S → Record → S → Type 0} {s : ℕ → Schema} {n : ℕ} {d : Value} where
  pub reads_default : {v : Value} {a b : S} → v ≡ d → step a (presence_bit false) b → ReadsPart step (by_default d) s n (part_unless (same v d) v) a b
  reads_default {v} {a} {b} e h = rw (e, same_self d) (reads_left_out (by_default d) s n refl h)

  pub reads_other : {ts : List Tag} {v : Value} {a b c : S} {e : Bool} → IsType ts s → IsValue s d → e ≡ same v d → e ≡ false →
      step a (presence_bit true) b → Reads step s n v b c → ReadsPart step (by_default d) s n (part_unless (same v d) v) a c
  reads_other t k h f m r = rw (sym h ∙ f) (reads_there (by_default d) refl t m r (at_default k h r ∙ f))

  pub reads_equal : {v : Value} {a b c x : S} {e : Bool} → IsValue s d → e ≡ same v d → e ≡ true → step a (presence_bit true) b →
      Reads step s n v b c → step c is_default x → ReadsPart step (by_default d) s n (part_unless (same v d) v) a x
  reads_equal k h f m r z = rw (sym h ∙ f) (reads_spelled (by_default d) refl m r (at_default k h r ∙ f) z)

-- another form of the same type
pub reads_as : {S : Type 0} {step : S → Record → S → Type 0} (s t : ℕ → Schema) {n : ℕ} {v : Value} {a b : S} → ((n : ℕ) → t n ≡ s n) → Reads step s n v a b → Reads step t n v a b
reads_as {step = step} s t {n} {v} {a} {b} e h =
    let r : Reads step (λ _. s n) n v a b = record { raw = h.raw; fits = h.fits; means = h.means; chain = h.chain } in
    let q = subst (λ (f : Schema). Reads step (λ _. f) n v a b) (sym (e n)) r in
    record { raw = q.raw; fits = q.fits; means = q.means; chain = q.chain }

pub unread_as : {S : Type 0} {step : S → Record → S → Type 0}
    (s t : ℕ → Schema) {n : ℕ} {few : S → S → S → Type 0} {a failed : S} {x : DecodeError} → ((n : ℕ) → t n ≡ s n) → Unread step few s n a failed x → Unread step few t n a failed x
unread_as {step = step} s t {n} {few} {a} {failed} {x} e h =
    let r : Unread step few (λ _. s n) n a failed x = record { none = h.none } in
    let q = subst (λ (f : Schema). Unread step few (λ _. f) n a failed x) (sym (e n)) r in
    record { none = q.none }
