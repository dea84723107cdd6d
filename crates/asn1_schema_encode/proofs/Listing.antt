-- How lists are written and read.
use Rattle.std.proofs.Common.{◌≡◌, ℕ, ◌+◌, ◌<◌, ◌≤◌, zero, suc, true, false, List, ◌∷◌, ◌++◌, refl, subst, sym, ◌∙◌, ap, length, drop, get_or, add-one, drop-cons}
use Rattle.std.proofs.lemmas.List.{drop_all}
use Rattle.asn1_model.specs.Value.{Value, Values, no_more, member}
use Rattle.asn1_model.specs.Schema.{Schema, Size, Counts}
use Rattle.asn1_schema_errors.specs.declared.EncodeError.{EncodeError}
use Rattle.asn1_schema_laws.specs.Records.{Record, further, ends}
use Rattle.asn1_model.specs.Lawful.{member_count}
use Rattle.asn1_schema_laws.specs.Presents.{presents, member_records, Fits}
use Rattle.asn1_schema_laws.specs.Parts.{values_of}
use Rattle.asn1_schema_laws.specs.Forms.{Form}
use Rattle.asn1_schema_laws.specs.Chains.{Chain, OneAfter}
use Rattle.asn1_schema_laws.proofs.Chains.{chain_append, chain_split}
use Rattle.asn1_schema_laws.proofs.Forms.{listed_type, listed, begins_list, no_list, elements_fit, list_records}
use Rattle.asn1_schema_encode.specs.Writes.{Refused, Writes, CannotWrite, WritesMembers, CannotWriteMembers, EndsMembers, CannotEndMembers}
use Rattle.asn1_schema_encode.proofs.Writing.{cannot_later}

module _ {S : Type 0} {step : S → Record → S → Type 0} {s : ℕ → Schema} where
  pub writes_no_more : {a : S} (b : S) {c : S} → step a (further false) b → step b ends c → WritesMembers step s no_more a c
  writes_no_more b {c} h k = record { chain = λ n f. (b, h, (c, k, refl)) }

  pub writes_member : {v : Value} {vs : Values} {a b c d : S} → step a (further true) b → Writes step s v b c → WritesMembers step s vs c d → WritesMembers step s (member v vs) a d
  writes_member {b = b} m h k = record { chain = λ n f. (b, m, chain_append step _ _ _ _ _ (h.chain n f.0) (k.chain n f.1)) }

  pub cannot_further : (vs : Values) {v : Value} {a : S} {x : EncodeError} → Refused step (further true) a x → CannotWriteMembers step s (member v vs) a x
  cannot_further vs h = record { none = λ w n c f p. h.none w p.0 p.1 }

  pub cannot_no_more : {a : S} {x : EncodeError} → Refused step (further false) a x → CannotWriteMembers step s no_more a x
  cannot_no_more h = record { none = λ w n c f p. h.none w p.0 p.1 }

  module _ (one : OneAfter step) where
    pub cannot_close : {a b : S} {x : EncodeError} → step a (further false) b → Refused step ends b x → CannotWriteMembers step s no_more a x
    cannot_close {a} {b} h k = record { none = λ w n c f p. k.none w p.2.0 (subst (λ (z : S). step z ends p.2.0) (one a _ _ _ p.1 h) p.2.1) }

    pub cannot_member_here : (vs : Values) {v : Value} {a b : S} {x : EncodeError} → step a (further true) b → CannotWrite step s v b x → CannotWriteMembers step s (member v vs) a x
    cannot_member_here vs {v} {a} {b} m h = record {
      none = λ w n c f p.
          let q = subst (λ (z : S). Chain step (presents (s n) v ++ member_records (λ v. presents (s n) v) vs) z c) (one a _ _ _ p.1 m) p.2 in
          let t = chain_split step (presents (s n) v) (member_records (λ v. presents (s n) v) vs) b c q in
          h.none w n t.0 f.0 t.1;
    }

    pub cannot_member : {v : Value} {vs : Values} {a b c : S} {x : EncodeError} → step a (further true) b → Writes step s v b c →
        CannotWriteMembers step s vs c x → CannotWriteMembers step s (member v vs) a x
    cannot_member {v} {vs} {a} {b} {c} m h k = record {
      none = λ w n d f p.
          let q = subst (λ (z : S). Chain step (presents (s n) v ++ member_records (λ v. presents (s n) v) vs) z d) (one a _ _ _ p.1 m) p.2 in
          cannot_later one _ _ b c d (h.chain n f.0) (k.none w n d f.1) q;
    }

-- SEQUENCE OF and SET OF
module _ {S : Type 0} {step : S → Record → S → Type 0} (k : Form) (s : ℕ → Schema) (z : Size) (h : Counts) where
  pub writes_list : {vs : Values} {a b c : S} → step a (begins_list k z h (member_count vs)) b → WritesMembers step s vs b c → Writes step (listed_type k z h s) (listed k vs) a c
  writes_list {vs} {a} {b} {c} p w = record {
    chain = λ n. elim n as (λ n. Fits (listed_type k z h s n) (listed k vs) → Chain step (presents (listed_type k z h s n) (listed k vs)) a c) [
      | zero ↦ λ f. absurd (no_list z h s k (listed k vs) f)
      | suc j ↦ λ f. subst (λ rs. Chain step rs a c) (sym (list_records z h s j k vs)) (b, p, w.chain j (elements_fit z h s j k vs f))
    ];
  }

  pub cannot_list_here : (vs : Values) {a : S} {x : EncodeError} → Refused step (begins_list k z h (member_count vs)) a x → CannotWrite step (listed_type k z h s) (listed k vs) a x
  cannot_list_here vs {a} r = record {
    none = λ w n c. elim n as (λ n. Fits (listed_type k z h s n) (listed k vs) → Chain step (presents (listed_type k z h s n) (listed k vs)) a c → ⊥) [
      | zero ↦ λ f p. no_list z h s k (listed k vs) f
      | suc j ↦ λ f p. let q = subst (λ rs. Chain step rs a c) (list_records z h s j k vs) p in r.none w q.0 q.1
    ];
  }

  pub cannot_list : OneAfter step → {vs : Values} {a b : S} {x : EncodeError} → step a (begins_list k z h (member_count vs)) b →
      CannotWriteMembers step s vs b x → CannotWrite step (listed_type k z h s) (listed k vs) a x
  cannot_list one {vs} {a} {b} i u = record {
    none = λ w n c. elim n as (λ n. Fits (listed_type k z h s n) (listed k vs) → Chain step (presents (listed_type k z h s n) (listed k vs)) a c → ⊥) [
      | zero ↦ λ f p. no_list z h s k (listed k vs) f
      | suc j ↦ λ f p.
          let q = subst (λ rs. Chain step rs a c) (list_records z h s j k vs) p in
          u.none w j c (elements_fit z h s j k vs f) (subst (λ (y : S). Chain step (member_records (λ v. presents (s j) v) vs) y c) (one a _ _ _ q.1 i) q.2)
    ];
  }

-- a loop over the items: what is to be written after the first i of them
pub record WritesFrom {S A : Type 0} (step : S → Record → S → Type 0) (s : ℕ → Schema) (f : A → Value) (xs : List A) (i : ℕ) (start now : S) : Type 0 where
  pub done : (c : S) → WritesMembers step s (values_of f (drop i xs)) now c → WritesMembers step s (values_of f xs) start c
  pub stuck : (x : EncodeError) → CannotWriteMembers step s (values_of f (drop i xs)) now x → CannotWriteMembers step s (values_of f xs) start x

rest_is : {A : Type 0} (xs : List A) (i : ℕ) (x : A) → i < length xs → x ≡ get_or xs i x → drop i xs ≡ x ∷ drop (i + 1) xs
rest_is xs i x lt at = rw add-one (drop-cons xs i x lt ∙ ap (λ y. y ∷ drop (suc i) xs) (sym at))

module _ {S A : Type 0} {step : S → Record → S → Type 0} {s : ℕ → Schema} {f : A → Value} {xs : List A} where
  pub from_start : (a : S) → WritesFrom step s f xs 0 a a
  from_start a = record { done = λ c h. h; stuck = λ x h. h }

  pub from_next : OneAfter step → {i : ℕ} {a b c d : S} {x : A} → i < length xs → x ≡ get_or xs i x → WritesFrom step s f xs i a b →
      step b (further true) c → Writes step s (f x) c d → WritesFrom step s f xs (i + 1) a d
  from_next one {i} {a} {b} {c} {d} {x} lt at w m h =
      let e = rest_is xs i x lt at in
      record {
        done = λ y k. w.done y (subst (λ (ys : List A). WritesMembers step s (values_of f ys) b y) (sym e) (writes_member m h k));
        stuck = λ y k. w.stuck y (subst (λ (ys : List A). CannotWriteMembers step s (values_of f ys) b y) (sym e) (cannot_member one m h k));
      }

  pub from_further : {i : ℕ} {a b : S} {x : A} {y : EncodeError} → i < length xs → x ≡ get_or xs i x →
      WritesFrom step s f xs i a b → Refused step (further true) b y → CannotWriteMembers step s (values_of f xs) a y
  from_further {i} {a} {b} {x} {y} lt at w h = w.stuck y (subst (λ (ys : List A). CannotWriteMembers step s (values_of f ys) b y) (sym (rest_is xs i x lt at)) (cannot_further _ h))

  pub from_stuck : OneAfter step → {i : ℕ} {a b c : S} {x : A} {y : EncodeError} → i < length xs → x ≡ get_or xs i x →
      WritesFrom step s f xs i a b → step b (further true) c → CannotWrite step s (f x) c y → CannotWriteMembers step s (values_of f xs) a y
  from_stuck one {i} {a} {b} {c} {x} {y} lt at w m h = w.stuck y (subst (λ (ys : List A). CannotWriteMembers step s (values_of f ys) b y) (sym (rest_is xs i x lt at)) (cannot_member_here one _ m h))

  pub from_end : {i : ℕ} {a b d : S} → length xs ≤ i → WritesFrom step s f xs i a b → EndsMembers step b d → WritesMembers step s (values_of f xs) a d
  from_end {i} {a} {b} {d} le w m = w.done d (subst (λ (ys : List A). WritesMembers step s (values_of f ys) b d) (sym (drop_all i xs le)) (record { chain = λ n f. m }))

  pub from_no_end : {i : ℕ} {a b : S} {y : EncodeError} → length xs ≤ i → WritesFrom step s f xs i a b → CannotEndMembers step b y → CannotWriteMembers step s (values_of f xs) a y
  from_no_end {i} {a} {b} {y} le w h =
      w.stuck y (subst (λ (ys : List A). CannotWriteMembers step s (values_of f ys) b y) (sym (drop_all i xs le)) (record { none = λ o n c g p. h.none o c p }))
