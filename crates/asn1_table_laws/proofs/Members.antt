-- The elements of a list, one after another.
use Rattle.std.proofs.Common.{◌≡◌, ◌∙◌, refl, sym, ap, subst, ℕ, suc, ◌+◌, ◌<◌, Bool, true, false, List, [], ◌∷◌, ◌++◌, length, arith}
use Rattle.std.specs.Prelude.{slice_set as set}
use Rattle.asn1_model.specs.Value.{Value, Values, no_more, member, members, bag, map_members}
use Rattle.asn1_model.specs.Schema.{Size, Counts, Schema, sequence_of, set_of}
use Rattle.asn1_model.specs.Numbers.{is_count_within}
use Rattle.asn1_model.specs.Normal.{normal}
use Rattle.asn1_model.specs.Lawful.{is_lawful, member_count}
use Rattle.asn1_schema_errors.specs.declared.DecodeError.{DecodeError}
use Rattle.asn1_schema_laws.specs.Records.{Record, list_begins, bag_begins, further, ends, asks_list, asks_bag, asks_further, asks_end}
use Rattle.asn1_schema_laws.specs.Presents.{presents, member_records, Fits, AllFit}
use Rattle.asn1_schema_laws.specs.Chains.{Chain, OneRecord}
use Rattle.asn1_schema_laws.proofs.Chains.{chain_append, chain_split}
use Rattle.asn1_schema_laws.proofs.OneValue.{one_value}
use Rattle.asn1_schema_lacking_laws.specs.Carried.{CarriesMembers}
use Rattle.asn1_schema_decode.specs.Reads.{NoRecord, NoLevel}
use Rattle.asn1_table_laws.specs.Walks.{Told, NoValue, EndsMembers, StuckMembers, members as listed, Begun, Awaits}
use Rattle.asn1_table_laws.proofs.Lists.{behind, set_there}

count_mapped : (g : Value → Value) (vs : Values) → member_count (map_members g vs) ≡ member_count vs
count_mapped g no_more = refl
count_mapped g (member v vs) = ap suc (count_mapped g vs)

-- what is first asked of elements
first_further : {S : Type 0} (step : S → Record → S → Type 0) (s : Schema) (ws : Values) (a c : S) → Chain step (member_records (λ v. presents s v) ws) a c →
    (y : Bool) × (m : S) × step a (further y) m
first_further step s no_more a c p = (false, p.0, p.1)
first_further step s (member w ws) a c p = (true, p.0, p.1)

module _ {S : Type 0} {step : S → Record → S → Type 0} where
  -- an element, and those after it
  member_told : {f : ℕ → Record} {h : Counts} {s : Schema} {i k : ℕ} {a b c d : S} {K K1 K2 K3 : List Record} → step a (further true) b → K1 ≡ K ++ further true ∷ [] → Told step s b c K1 K2 →
      EndsMembers step f h s i (k + 1) c d K2 K3 → EndsMembers step f h s i k a d K K3
  member_told {f} {h} {s} {i} {k} {a} {b} {c} {d} {K} {K1} {K2} {K3} m e t r =
      let q : (k + 1) + member_count r.raw ≡ k + suc (member_count r.raw) = omega arith in
      let us = map_members (λ v. normal s v) r.raw in
      let g : K2 ++ member_records (λ v. presents s v) us ≡ K ++ further true ∷ (presents s (normal s t.raw) ++ member_records (λ v. presents s v) us) =
      behind K (further true ∷ presents s (normal s t.raw)) (member_records (λ v. presents s v) us) (behind K (further true ∷ []) (presents s (normal s t.raw)) e t.kept) refl in
      record {
        raw = member t.raw r.raw;
        fits = (t.fits, r.fits);
        within = subst (λ (n : ℕ). is_count_within h n ≡ true) q r.within;
        chain = (b, m, chain_append step (presents s t.raw) (member_records (λ v. presents s v) r.raw) b c d t.chain r.chain);
        kept = r.kept ∙ ap (λ l. set l i (f ((k + 1) + member_count r.raw))) g ∙ ap (λ n. set (K ++ further true ∷ (presents s (normal s t.raw) ++ member_records (λ v. presents s v) us)) i
            (f n)) q;
      }

  -- no more elements, and the end
  pub last_told : {f : ℕ → Record} {h : Counts} {s : Schema} {i k : ℕ} {a : S} (b : S) {c : S} {K K1 K2 K3 : List Record} → step a (further false) b → K1 ≡ K ++ further false ∷ [] →
      step b ends c → K2 ≡ K1 ++ ends ∷ [] → K3 ≡ set K2 i (f k) → is_count_within h k ≡ true → EndsMembers step f h s i k a c K K3
  last_told {f} {h} {s} {i} {k} {a} b {c} {K} {K1} {K2} {K3} m e n q2 g w =
      let q : k ≡ k + 0 = omega arith in
      record {
        raw = no_more;
        fits = tt;
        within = subst (λ (n : ℕ). is_count_within h n ≡ true) q w;
        chain = (b, m, (c, n, refl));
        kept = g ∙ ap (λ l. set l i (f k)) (behind K (further false ∷ []) (ends ∷ []) e q2) ∙ ap (λ n. set (K ++ further false ∷ ends ∷ []) i (f n)) q;
      }

  module _ (one : OneRecord step) {few within : S → S → S → Type 0} (carries : CarriesMembers step few within) where
    -- no element comes where there is no further one
    none_further : (s : Schema) (ws : Values) {a b : S} (c : S) → step a (further false) b → Chain step (member_records (λ v. presents s v) ws) a c → (ws ≡ no_more) × step b ends c
    none_further s no_more {a} {b} c m p = (
      refl,
      subst (λ (z : S). step z ends c) (one a (further false) (further false) p.0 b refl p.1 m).1
          (subst (λ (z : S). step p.0 ends z) (sym p.2.2) p.2.1),
    )
    none_further s (member w ws) {a} {b} c m p = let e : further true ≡ further false = (one a (further true) (further false) p.0 b refl p.1 m).0 in cc

    -- an element comes where there is a further one
    one_further : (s : Schema) (ws : Values) {a b : S} (c : S) → step a (further true) b → AllFit (λ v. Fits s v) ws → Chain step (member_records (λ v. presents s v) ws) a c →
        (w : Value) × (us : Values) × (member_count ws ≡ suc (member_count us)) × Fits s w × AllFit (λ v. Fits s v) us × Chain step (presents s w ++ member_records (λ v. presents s v) us) b c
    one_further s no_more {a} {b} c m g p = let e : further false ≡ further true = (one a (further false) (further true) p.0 b refl p.1 m).0 in cc
    one_further s (member w ws) {a} {b} c m g p = (
      w,
      ws,
      refl,
      g.0,
      g.1,
      subst (λ (z : S). Chain step (presents s w ++ member_records (λ v. presents s v) ws) z c)
          (one a (further true) (further true) p.0 b refl p.1 m).1 p.2,
    )

    -- where the input does not say whether there is a further element
    pub further_stuck : {h : Counts} {s : Schema} {k : ℕ} {a failed : S} {x : DecodeError} → NoRecord step few asks_further a failed x → StuckMembers step within h s k a failed x
    further_stuck {s = s} {a = a} {failed = failed} u = record {
      none = λ m start near vs c w g p.
          let t = first_further step s vs start c p in
          carries.asked a failed (λ d l v e r. u.none m d l (further v) e refl r) start near t.0 t.1 t.2;
    }

    -- where what is after an element is not next
    pub member_passed : {h : Counts} {s : Schema} {k : ℕ} {a b c failed : S} {x : DecodeError} {K1 K2 : List Record} → step a (further true) b → Told step s b c K1 K2 →
        StuckMembers step within h s (k + 1) c failed x → StuckMembers step within h s k a failed x
    member_passed {h} {s} {k} {a} {b} {c} {failed} m t u = record {
      none = λ y start near vs e w g p.
          let z = carries.member s t.raw a b c failed start m t.chain near in
          let q = one_further s vs e z.2 g p in
          let r = chain_split step (presents s q.0) (member_records (λ v. presents s v) q.1) z.0 e q.5 in
          let l = one_value one s q.0 t.raw z.0 r.0 z.1 q.3 t.fits r.1 z.3 in
          let i : k + member_count vs ≡ (k + 1) + member_count q.1 = omega (arith, q.2) in
          u.none y z.1 z.4 q.1 e (subst (λ (n : ℕ). is_count_within h n ≡ true) i w) q.4 (subst (λ (o : S). Chain step (member_records (λ v. presents s v) q.1) o e) l.1 r.2);
    }

    -- where the value of an element is not next
    pub member_stuck : {h : Counts} {s : Schema} {k : ℕ} {a b failed : S} {x : DecodeError} → is_lawful s ≡ true → step a (further true) b → NoValue step few s b failed x →
        StuckMembers step within h s k a failed x
    member_stuck {s = s} {a = a} {b = b} {failed = failed} lawful m u = record {
      none = λ y start near vs e w g p.
          let z = carries.coming a b failed start m near in
          let t = one_further s vs e z.1 g p in
          carries.stuck s lawful a b failed m (λ d l v o f p. u.none y d l v o f p) start z.0 near z.1 t.0 t.1 e t.3 t.5;
    }

    -- where there is an element more than are held
    pub full_stuck : {h : Counts} {s : Schema} {k : ℕ} {a b : S} (failed : S) (x : DecodeError) → ((n : ℕ) → is_count_within h (k + suc n) ≡ true → ⊥) → step a (further true) b →
        StuckMembers step within h s k a failed x
    full_stuck {h} {s} {k} {a} {b} failed x full m = record {
      none = λ y start near vs e w g p.
          let z = carries.coming a b failed start m near in
          let t = one_further s vs e z.1 g p in
          full (member_count t.1) (subst (λ (n : ℕ). is_count_within h (k + n) ≡ true) t.2 w);
    }

    -- where the end is not next
    pub close_stuck : {h : Counts} {s : Schema} {k : ℕ} {a b failed : S} {x : DecodeError} → step a (further false) b → NoRecord step few asks_end b failed x →
        StuckMembers step within h s k a failed x
    close_stuck {s = s} {a = a} {b = b} {failed = failed} m u = record {
      none = λ y start near vs e w g p.
          let z = carries.last a b failed start m near in
          let t = none_further s vs e z.1 p in
          u.none y z.0 z.2 ends e refl t.1;
    }

    -- one turn at the elements: a further one comes
    pub member_awaited : {f : ℕ → Record} {h : Counts} {s : Schema} {i k : ℕ} {a b : S} {K K1 : List Record} → is_lawful s ≡ true → step a (further true) b → K1 ≡ K ++ further true ∷ [] →
        Awaits step few within (listed f h s i k) (listed f h s i (k + 1)) s a b K K1
    member_awaited lawful m e = record {
      passes = λ c more t. record { done = λ d end r. member_told m e t r; stuck = λ failed x u. member_passed m t u };
      stuck = λ failed x u. member_stuck lawful m u;
    }

    -- a list begins
    pub list_begun : {z : Size} {h : Counts} {s : Schema} {i : ℕ} {a b : S} {K K1 : List Record} →
        ((a : S) (z : Size) (h : Counts) (k : ℕ) (b : S) → step a (list_begins z h k) b → is_count_within h k ≡ true) → ((k : ℕ) → is_count_within h k ≡ true → step a (list_begins z h k) b) →
        K1 ≡ K ++ list_begins z h 0 ∷ [] → i ≡ length K → Begun step few within (sequence_of z h s) (listed (λ k. list_begins z h k) h s i 0) a b K K1
    unfolding presents Fits normal
    list_begun {z} {h} {s} {i} {a} {b} {K} {K1} held begins e j = record {
      done = λ c more r.
          let q : 0 + member_count r.raw ≡ member_count r.raw = omega arith in
          let us = map_members (λ v. normal s v) r.raw in
          let l : 0 + member_count r.raw ≡ member_count us = q ∙ sym (count_mapped (λ v. normal s v) r.raw) in
          record {
            raw = members r.raw;
            fits = r.fits;
            chain = (b, begins (member_count r.raw) (subst (λ (n : ℕ). is_count_within h n ≡ true) q r.within), r.chain);
            kept = r.kept ∙ ap (λ o. set o i (list_begins z h (0 + member_count r.raw))) (behind K (list_begins z h 0 ∷ []) (member_records (λ v. presents s v) us) e refl)
                ∙ ap (λ o. set (K ++ list_begins z h 0 ∷ member_records (λ v. presents s v) us) o (list_begins z h (0 + member_count r.raw))) j
                ∙ set_there K (list_begins z h 0) (list_begins z h (0 + member_count r.raw)) (member_records (λ v. presents s v) us)
                ∙ ap (λ o. K ++ list_begins z h o ∷ member_records (λ v. presents s v) us) l;
          };
      stuck = λ failed x u. record {
        none = λ y start near v c. elim v as (λ v. Fits (sequence_of z h s) v → Chain step (presents (sequence_of z h s) v) start c → ⊥) [
          | members vs ↦ λ g p.
              let k = held start z h (member_count vs) p.0 p.1 in
              let q = carries.list z h (member_count vs) a b failed start (begins (member_count vs) k) near in
              let e = (one start (list_begins z h (member_count vs)) (list_begins z h (member_count vs)) p.0 q.0 refl p.1 q.1).1 in
              let n : member_count vs ≡ 0 + member_count vs = omega arith in
              u.none y q.0 q.2 vs c (subst (λ (n : ℕ). is_count_within h n ≡ true) n k) g (subst (λ (o : S). Chain step (member_records (λ v. presents s v) vs) o c) e p.2)
          | _ ↦ λ g p. g
        ];
      };
    }

    -- a bag begins
    pub bag_begun : {z : Size} {h : Counts} {s : Schema} {i : ℕ} {a b : S} {K K1 : List Record} →
        ((a : S) (z : Size) (h : Counts) (k : ℕ) (b : S) → step a (bag_begins z h k) b → is_count_within h k ≡ true) → ((k : ℕ) → is_count_within h k ≡ true → step a (bag_begins z h k) b) →
        K1 ≡ K ++ bag_begins z h 0 ∷ [] → i ≡ length K → Begun step few within (set_of z h s) (listed (λ k. bag_begins z h k) h s i 0) a b K K1
    unfolding presents Fits normal
    bag_begun {z} {h} {s} {i} {a} {b} {K} {K1} held begins e j = record {
      done = λ c more r.
          let q : 0 + member_count r.raw ≡ member_count r.raw = omega arith in
          let us = map_members (λ v. normal s v) r.raw in
          let l : 0 + member_count r.raw ≡ member_count us = q ∙ sym (count_mapped (λ v. normal s v) r.raw) in
          record {
            raw = bag r.raw;
            fits = r.fits;
            chain = (b, begins (member_count r.raw) (subst (λ (n : ℕ). is_count_within h n ≡ true) q r.within), r.chain);
            kept = r.kept ∙ ap (λ o. set o i (bag_begins z h (0 + member_count r.raw))) (behind K (bag_begins z h 0 ∷ []) (member_records (λ v. presents s v) us) e refl)
                ∙ ap (λ o. set (K ++ bag_begins z h 0 ∷ member_records (λ v. presents s v) us) o (bag_begins z h (0 + member_count r.raw))) j
                ∙ set_there K (bag_begins z h 0) (bag_begins z h (0 + member_count r.raw)) (member_records (λ v. presents s v) us)
                ∙ ap (λ o. K ++ bag_begins z h o ∷ member_records (λ v. presents s v) us) l;
          };
      stuck = λ failed x u. record {
        none = λ y start near v c. elim v as (λ v. Fits (set_of z h s) v → Chain step (presents (set_of z h s) v) start c → ⊥) [
          | bag vs ↦ λ g p.
              let k = held start z h (member_count vs) p.0 p.1 in
              let q = carries.bag z h (member_count vs) a b failed start (begins (member_count vs) k) near in
              let e = (one start (bag_begins z h (member_count vs)) (bag_begins z h (member_count vs)) p.0 q.0 refl p.1 q.1).1 in
              let n : member_count vs ≡ 0 + member_count vs = omega arith in
              u.none y q.0 q.2 vs c (subst (λ (n : ℕ). is_count_within h n ≡ true) n k) g (subst (λ (o : S). Chain step (member_records (λ v. presents s v) vs) o c) e p.2)
          | _ ↦ λ g p. g
        ];
      };
    }

-- no list begins here
pub no_list : {S : Type 0} {step : S → Record → S → Type 0} {few : S → S → S → Type 0} {z : Size} {h : Counts} (s : Schema) {m : ℕ} {a failed : S} {x : DecodeError} → 0 < m →
    NoLevel step few (asks_list z h) m a failed x → NoValue step few (sequence_of z h s) a failed x
unfolding presents Fits
no_list {step = step} {z = z} {h = h} s l k = record {
  none = λ w start near v c. elim v as (λ v. Fits (sequence_of z h s) v → Chain step (presents (sequence_of z h s) v) start c → ⊥) [
    | members vs ↦ λ g p. k.none w start near l _ p.0 refl p.1
    | _ ↦ λ g p. g
  ];
}

-- no bag begins here
pub no_bag : {S : Type 0} {step : S → Record → S → Type 0} {few : S → S → S → Type 0} {z : Size} {h : Counts} (s : Schema) {m : ℕ} {a failed : S} {x : DecodeError} → 0 < m →
    NoLevel step few (asks_bag z h) m a failed x → NoValue step few (set_of z h s) a failed x
unfolding presents Fits
no_bag {step = step} {z = z} {h = h} s l k = record {
  none = λ w start near v c. elim v as (λ v. Fits (set_of z h s) v → Chain step (presents (set_of z h s) v) start c → ⊥) [
    | bag vs ↦ λ g p. k.none w start near l _ p.0 refl p.1
    | _ ↦ λ g p. g
  ];
}
