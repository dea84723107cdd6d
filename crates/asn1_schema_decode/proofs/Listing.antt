-- How lists are read.
use Rattle.std.specs.Prelude.{not}
use Rattle.std.proofs.lemmas.Bool.{and_parts, le-leb, leb-true}
use Rattle.std.proofs.Common.{◌≡◌, ℕ, ◌+◌, ◌<◌, ◌≤◌, leb, Option, Some, None, zero, suc, Bool, true, false, List, [], ◌∷◌, ◌++◌, refl, subst, sym, ◌∙◌, ap, arith, length}
use Rattle.asn1_model.specs.Value.{Value, Values, no_more, member, map_members}
use Rattle.asn1_model.specs.Schema.{Schema, Size, Counts}
use Rattle.asn1_model.specs.Normal.{normal}
use Rattle.asn1_model.specs.Numbers.{is_count_within}
use Rattle.asn1_schema_errors.specs.declared.DecodeError.{DecodeError}
use Rattle.asn1_schema_laws.specs.Records.{Record, further, ends, asks_further, asks_end}
use Rattle.asn1_model.specs.Lawful.{IsLawful, member_count}
use Rattle.asn1_schema_laws.specs.Presents.{presents, member_records, Fits, AllFit}
use Rattle.asn1_schema_laws.specs.Parts.{values_of}
use Rattle.asn1_schema_laws.specs.Forms.{Form, sequence_form, set_form}
use Rattle.asn1_schema_laws.specs.Chains.{Chain, OneRecord}
use Rattle.asn1_schema_laws.proofs.Chains.{chain_append, chain_split}
use Rattle.asn1_schema_laws.proofs.Forms.{listed_type, listed, begins_list, asks_for_list, list_question, no_list, list_fits, list_records, elements_of, normal_list, count_values, count_mapped}
use Rattle.asn1_schema_laws.proofs.OneValue.{one_value}
use Rattle.asn1_schema_decode.specs.Reads.{NoRecord, NoLevel, Reads, Unread, ReadsMembers, UnreadMembers}
use Rattle.asn1_schema_lacking_laws.specs.Carried.{CarriesMembers}
use Rattle.std.specs.Option.{option_map_or}

-- elements, and those after them
abbrev pub joined : Values → Values → Values
joined no_more us = us
joined (member v vs) us = member v (joined vs us)

joined_more : {A : Type 0} (f : A → Value) (xs : List A) (x : A) (us : Values) → joined (values_of f (xs ++ x ∷ [])) us ≡ joined (values_of f xs) (member (f x) us)
joined_more f [] x us = refl
joined_more f (y ∷ xs) x us = ap (member (f y)) (joined_more f xs x us)

joined_all : (vs : Values) → joined vs no_more ≡ vs
joined_all no_more = refl
joined_all (member v vs) = ap (member v) (joined_all vs)

one_longer : {A : Type 0} (xs : List A) (x : A) → length (xs ++ x ∷ []) ≡ suc (length xs)
one_longer [] x = refl
one_longer (y ∷ xs) x = ap suc (one_longer xs x)

-- what is not above the bounds, nor is anything below it
within_below : (h : Option ℕ) (k n : ℕ) → n ≤ k → option_map_or (λ x. leb k x) h true ≡ true → option_map_or (λ x. leb n x) h true ≡ true
within_below None k n l e = refl
within_below (Some high) k n l e = le-leb n high (let j = leb-true k high e in omega arith)

-- a loop over the elements: what is read of them so far, and what follows, also with a little more input
pub record ReadsFrom {S A : Type 0} (step : S → Record → S → Type 0) (within : S → S → S → Type 0) (s : ℕ → Schema) (n : ℕ) (f : A → Value) (xs : List A) (start now : S) : Type 0 where
  pub done : (us : Values) (c : S) → ReadsMembers step s n us now c → ReadsMembers step s n (joined (values_of f xs) us) start c
  pub rest : (failed c : S) → within start failed c →
      (d : S) × within now failed d × ((vs : Values) (e : S) → AllFit (λ v. Fits (s n) v) vs →
      Chain step (member_records (λ v. presents (s n) v) vs) c e → (ws : Values) × (member_count vs ≡ length xs + member_count ws)
      × AllFit (λ v. Fits (s n) v) ws × Chain step (member_records (λ v. presents (s n) v) ws) d e)

module _ {S : Type 0} (step : S → Record → S → Type 0) (s : ℕ → Schema) (n : ℕ) where
  reads_no_more : {a : S} (b : S) {c : S} → step a (further false) b → step b ends c → ReadsMembers step s n no_more a c
  reads_no_more b {c} h k = record { raw = no_more; fits = tt; means = refl; chain = (b, h, (c, k, refl)) }

  reads_member : {v : Value} {us : Values} {a b c d : S} → step a (further true) b → Reads step s n v b c → ReadsMembers step s n us c d → ReadsMembers step s n (member v us) a d
  reads_member {v} {us} {b = b} {c} {d} m h k = record {
    raw = member h.raw k.raw;
    fits = (h.fits, k.fits);
    means = ap (λ z. member z (map_members (λ v. normal (s n) v) k.raw)) h.means ∙ ap (member v) k.means;
    chain = (b, m, chain_append step (presents (s n) h.raw) (member_records (λ v. presents (s n) v) k.raw) b c d h.chain k.chain);
  }

  -- the first question about an element
  first_further : (ws : Values) (a c : S) → Chain step (member_records (λ v. presents (s n) v) ws) a c → (y : Bool) × (m : S) × step a (further y) m
  first_further no_more a c p = (false, p.0, p.1)
  first_further (member w ws) a c p = (true, p.0, p.1)

  module _ (one : OneRecord step) where
    -- no element follows if none is announced
    none_further : (ws : Values) {a b : S} (c : S) → step a (further false) b → Chain step (member_records (λ v. presents (s n) v) ws) a c → (ws ≡ no_more) × step b ends c
    none_further no_more {a} {b} c m p = (refl, subst (λ (z : S). step z ends c) (one a (further false) (further false) p.0 b refl p.1 m).1 (subst (λ (z : S). step p.0 ends z) (sym p.2.2) p.2.1))
    none_further (member w ws) {a} {b} c m p = let e : further true ≡ further false = (one a (further true) (further false) p.0 b refl p.1 m).0 in cc

    -- an element comes where there is a further one
    one_further : (ws : Values) {a b : S} (c : S) → step a (further true) b → AllFit (λ v. Fits (s n) v) ws →
        Chain step (member_records (λ v. presents (s n) v) ws) a c →
        (w : Value) × (us : Values) × (member_count ws ≡ suc (member_count us)) × Fits (s n) w × AllFit (λ v. Fits (s n) v) us
        × Chain step (presents (s n) w ++ member_records (λ v. presents (s n) v) us) b c
    one_further no_more {a} {b} c m g p = let e : further false ≡ further true = (one a (further false) (further true) p.0 b refl p.1 m).0 in cc
    one_further (member w ws) {a} {b} c m g p =
        (w, ws, refl, g.0, g.1, subst (λ (z : S). Chain step (presents (s n) w ++ member_records (λ v. presents (s n) v) ws) z c) (one a (further true) (further true) p.0 b refl p.1 m).1 p.2)

    -- what follows an element that is read
    behind_member : (ws : Values) {v : Value} {a b d : S} (c : S) → step a (further true) b → Reads step s n v b d →
        AllFit (λ v. Fits (s n) v) ws → Chain step (member_records (λ v. presents (s n) v) ws) a c →
        (us : Values) × (member_count ws ≡ suc (member_count us)) × AllFit (λ v. Fits (s n) v) us × Chain step (member_records (λ v. presents (s n) v) us) d c
    behind_member ws {v} {a} {b} {d} c m r g p =
        let q = one_further ws c m g p in
        let t = chain_split step (presents (s n) q.0) (member_records (λ v. presents (s n) v) q.1) b c q.5 in
        let e = one_value one (s n) q.0 r.raw b t.0 d q.3 r.fits t.1 r.chain in
        (q.1, q.2, q.4, subst (λ (z : S). Chain step (member_records (λ v. presents (s n) v) q.1) z c) e.1 t.2)

module _ {S A : Type 0} {step : S → Record → S → Type 0} {within : S → S → S → Type 0} {s : ℕ → Schema} {n : ℕ} {f : A → Value} where
  pub from_start : (a : S) → ReadsFrom step within s n f [] a a
  from_start a = record { done = λ us c h. h; rest = λ failed c near. (c, near, λ vs e g p. (vs, omega arith, g, p)) }

  pub from_end : {xs : List A} {a b c d : S} → ReadsFrom step within s n f xs a b → step b (further false) c → step c ends d → ReadsMembers step s n (values_of f xs) a d
  from_end {xs} {a} {b} {c} {d} w m h = subst (λ (us : Values). ReadsMembers step s n us a d) (joined_all (values_of f xs)) (w.done no_more d (reads_no_more step s n _ m h))

  module _ {few : S → S → S → Type 0} (carries : CarriesMembers step few within) where
    pub from_further : (h : Counts) {xs : List A} {a b failed : S} {x : DecodeError} → ReadsFrom step within s n f xs a b →
        NoRecord step few asks_further b failed x → UnreadMembers step within s n h a failed x
    from_further h {a = a} {b = b} {failed = failed} w k = record {
      none = λ m start near vs c i g p.
          let y = w.rest failed start near in
          let q = y.2 vs c g p in
          let t = first_further step s n q.0 y.0 c q.3 in
          carries.asked b failed (λ d l v e r. k.none m d l (further v) e refl r) y.0 y.1 t.0 t.1 t.2;
    }

    module _ (one : OneRecord step) where
      pub from_next : {xs : List A} {x : A} {a b c d : S} → ReadsFrom step within s n f xs a b → step b (further true) c → Reads step s n (f x) c d → ReadsFrom step within s n f (xs ++ x ∷ []) a d
      from_next {xs} {x} {a} {b} {c} {d} w m r = record {
        done = λ us e k. subst (λ (vs : Values). ReadsMembers step s n vs a e) (sym (joined_more f xs x us)) (w.done (member (f x) us) e (reads_member step s n m r k));
        rest = λ failed start near.
            let y = w.rest failed start near in
            let z = carries.member (s n) r.raw b c d failed y.0 m r.chain y.1 in (
              z.1,
              z.4,
              λ vs e g p.
                  let q = y.2 vs e g p in
                  let u : Reads step s n (f x) z.0 z.1 = record { raw = r.raw; fits = r.fits; means = r.means; chain = z.3 } in
                  let t = behind_member step s n one q.0 e z.2 u q.2 q.3 in
                  let l = one_longer xs x in
                  (t.0, omega (arith, q.1, t.1, l), t.2, t.3),
            );
      }

      pub from_stuck : (h : Counts) → IsLawful (s n) → {xs : List A} {a b c failed : S} {x : DecodeError} →
          ReadsFrom step within s n f xs a b → step b (further true) c → Unread step few s n c failed x → UnreadMembers step within s n h a failed x
      from_stuck h lawful {b = b} {c = c} {failed = failed} w m u = record {
        none = λ y start near vs e i g p.
            let r = w.rest failed start near in
            let q = r.2 vs e g p in
            let z = carries.coming b c failed r.0 m r.1 in
            let t = one_further step s n one q.0 e z.1 q.2 q.3 in
            carries.stuck (s n) lawful b c failed m (λ d l v o f p. u.none y d l v o f p) r.0 z.0 r.1 z.1 t.0 t.1 e t.3 t.5;
      }

      pub from_close : (h : Counts) {xs : List A} {a b c failed : S} {x : DecodeError} → ReadsFrom step within s n f xs a b →
          step b (further false) c → NoRecord step few asks_end c failed x → UnreadMembers step within s n h a failed x
      from_close h {b = b} {c = c} {failed = failed} w m u = record {
        none = λ y start near vs e i g p.
            let r = w.rest failed start near in
            let q = r.2 vs e g p in
            let z = carries.last b c failed r.0 m r.1 in
            let t = none_further step s n one q.0 e z.1 q.3 in
            u.none y z.0 z.2 ends e refl t.1;
      }

      -- one element more than h has room for
      pub from_full : (h : Counts) (x : DecodeError) {xs : List A} {a b c : S} (failed : S) → ReadsFrom step within s n f xs a b →
          step b (further true) c → not (option_map_or (λ x. leb (length xs + 1) x) h.high true) ≡ true → UnreadMembers step within s n h a failed x
      from_full h x {xs} {b = b} {c = c} failed w m u = record {
        none = λ y start near vs e i g p.
            let r = w.rest failed start near in
            let q = r.2 vs e g p in
            let o = carries.coming b c failed r.0 m r.1 in
            let t = one_further step s n one q.0 e o.1 q.2 q.3 in
            let j = and_parts (leb h.low (member_count vs)) (option_map_or (λ x. leb (member_count vs) x) h.high true) i in
            let z : option_map_or (λ x. leb (length xs + 1) x) h.high true ≡ true = within_below h.high (member_count vs) (length xs + 1) (omega (arith, q.1, t.2)) j.1 in
            let z' : not (option_map_or (λ x. leb (length xs + 1) x) h.high true) ≡ false = rw z refl in
            let e : true ≡ false = sym u ∙ z' in
            cc;
      }

      -- another number of elements than h admits
      pub from_other : (h : Counts) (x : DecodeError) {xs : List A} {a b c : S} (failed : S) → ReadsFrom step within s n f xs a b →
          step b (further false) c → is_count_within h (length xs) ≡ false → UnreadMembers step within s n h a failed x
      from_other h x {xs} {b = b} {c = c} failed w m u = record {
        none = λ y start near vs e i g p.
            let r = w.rest failed start near in
            let q = r.2 vs e g p in
            let o = carries.last b c failed r.0 m r.1 in
            let t = none_further step s n one q.0 e o.1 q.3 in
            let l : member_count q.0 ≡ 0 = ap member_count t.0 in
            let k : member_count vs ≡ length xs = omega (arith, q.1, l) in
            let z : is_count_within h (member_count vs) ≡ false = rw k u in
            cc;
      }

-- SEQUENCE OF and SET OF
carried_list : {S : Type 0} {step : S → Record → S → Type 0} {few within : S → S → S → Type 0} → CarriesMembers step few within → (k : Form) (z : Size) (h : Counts)
    (i : ℕ) (a b failed c : S) → step a (begins_list k z h i) b → few a failed c → (d : S) × step c (begins_list k z h i) d × within b failed d
carried_list carries sequence_form = carries.list
carried_list carries set_form = carries.bag

module _ {S : Type 0} {step : S → Record → S → Type 0} (k : Form) (s : ℕ → Schema) (z : Size) (h : Counts) {a b : S} {m n : ℕ} where
  -- a list begins with any number of elements that h admits
  pub reads_list : {A : Type 0} (f : A → Value) (xs : List A) {c : S} → m ≡ n + 1 →
      ((i : ℕ) → is_count_within h i ≡ true → step a (begins_list k z h i) b) → is_count_within h (length xs) ≡ true →
      ReadsMembers step s n (values_of f xs) b c → Reads step (listed_type k z h s) m (listed k (values_of f xs)) a c
  reads_list f xs {c} l i e r =
      let o : member_count r.raw ≡ length xs = sym (count_mapped (λ v. normal (s n) v) r.raw) ∙ ap member_count r.means ∙ count_values f xs in
      let y : Reads step (listed_type k z h s) (suc n) (listed k (values_of f xs)) a c = record {
        raw = listed k r.raw;
        fits = list_fits z h s n k r.raw r.fits;
        means = normal_list z h s n k r.raw ∙ ap (λ vs. listed k vs) r.means;
        chain = subst (λ rs. Chain step rs a c) (sym (list_records z h s n k r.raw)) (b, i (member_count r.raw) (rw o e), r.chain);
      } in
      subst (λ (i : ℕ). Reads step (listed_type k z h s) i (listed k (values_of f xs)) a c) (let z : suc n ≡ m = omega arith in z) y

  pub unread_list : OneRecord step → {few within : S → S → S → Type 0} → CarriesMembers step few within →
      ((a : S) (z : Size) (h : Counts) (i : ℕ) (b : S) → step a (begins_list k z h i) b → is_count_within h i ≡ true) →
      {failed : S} {x : DecodeError} → m ≡ n + 1 → ((i : ℕ) → is_count_within h i ≡ true → step a (begins_list k z h i) b) →
      UnreadMembers step within s n h b failed x → Unread step few (listed_type k z h s) m a failed x
  unread_list one {few} {within} carries held {failed} {x} l i u =
      let y : Unread step few (listed_type k z h s) (suc n) a failed x = record {
        none = λ w start near v c g p.
            let r = elements_of z h s n k v g in
            let t = subst (λ rs. Chain step rs start c) r.2 p in
            let e = held start z h (member_count r.0) t.0 t.1 in
            let q = carried_list carries k z h (member_count r.0) a b failed start (i (member_count r.0) e) near in
            let o = (one start (begins_list k z h (member_count r.0)) (begins_list k z h (member_count r.0)) t.0 q.0 refl t.1 q.1).1 in
            u.none w q.0 q.2 r.0 c e r.1 (subst (λ (y : S). Chain step (member_records (λ v. presents (s n) v) r.0) y c) o t.2);
      } in
      subst (λ (i : ℕ). Unread step few (listed_type k z h s) i a failed x) (let z : suc n ≡ m = omega arith in z) y

pub unread_list_here : {S : Type 0} {step : S → Record → S → Type 0} (k : Form) (s : ℕ → Schema) (z : Size) (h : Counts) (m : ℕ)
    {few : S → S → S → Type 0} {a failed : S} {x : DecodeError} → NoLevel step few (asks_for_list k z h) m a failed x → Unread step few (listed_type k z h s) m a failed x
unread_list_here k s z h zero u = record { none = λ w start near v c g p. no_list z h s k v g }
unread_list_here {step = step} k s z h (suc n) u = record {
  none = λ w start near v c g p.
      let r = elements_of z h s n k v g in
      let t = subst (λ rs. Chain step rs start c) r.2 p in
      u.none w start near (let y : 0 < suc n = omega arith in y) (begins_list k z h (member_count r.0)) t.0 (list_question k z h (member_count r.0)) t.1;
}
