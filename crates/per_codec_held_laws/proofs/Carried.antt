-- What a decoder finds it also finds with a few bits appended.
use Rattle.std.proofs.Common.{◌≡◌, ◌⊎◌, inl, inr, ◌≤◌, ℕ, zero, suc, ◌+◌, ltb, Bool, true, false, cond, IsTrue, List, [], ◌∷◌, ◌++◌, length, Some, None, refl, ap, sym, ◌∙◌, subst, arith}
use Rattle.std.proofs.lemmas.Bool.{ltb-true}
use Rattle.asn1_model.specs.Value.{Value, Values, no_more, member, depth, depth_of_members}
use Rattle.asn1_model.specs.Schema.{Schema, Size, Counts}
use Rattle.asn1_model.specs.Lawful.{IsLawful}
use Rattle.asn1_model.specs.Per
use Rattle.asn1_schema_reading_laws.proofs.Fitting
use Rattle.asn1_schema_laws.specs.Levels.{level, inside, Level}
use Rattle.asn1_schema_laws.specs.Records.{Record, list_begins, bag_begins, sequence_begins, set_begins, group_begins, choice_begins, further, addition, addition_ends, ends}
use Rattle.asn1_schema_laws.specs.Presents.{presents, member_records, Fits}
use Rattle.asn1_schema_laws.specs.Chains.{Chain}
use Rattle.asn1_schema_laws.proofs.Chains.{chain_split}
use Rattle.asn1_schema_laws.proofs.Levels.{nests}
use Rattle.per_codec_laws.specs.Takes.{Position, Scope, State, components, added, open_type, members, alternative, NextMember, Takes}
use Rattle.per_codec_laws.proofs.Whole.{records_read}
use Rattle.per_codec_longer_laws.specs.More.{place_with, scopes_with, with_more}
use Rattle.per_codec_longer_laws.specs.Few.{due, around}
use Rattle.asn1_schema_lacking_laws.specs.Carried.{CarriesRecords, CarriesValues, CarriesMembers}
use Rattle.per_codec_longer_laws.proofs.Behind.{more_none}
use Rattle.per_codec_longer_laws.proofs.Steps.{takes_more}
use Rattle.per_codec_longer_laws.proofs.Few.{none_owed, takes_owed, around_member, last_owed, list_around}
use Rattle.per_codec_longer_laws.proofs.Levelled.{Absent, stuck_within}
use Rattle.per_codec_reading.specs.Fronts.{freedoms, is_aligned}
use Rattle.per_codec_reading.specs.Runs.{Storage}
use Rattle.per_codec_reading.specs.declared.rules.PackedRules.{PackedRules}
use Rattle.per_codec_reading.specs.declared.rules.PackedRules.TheVariants.{Uper, Aper, UperStrict, AperStrict}
use Rattle.per_codec_held_laws.specs.Held.{Held, state_of, opened_in, stands_within, stands_outside, kept, Finds}
use Rattle.per_codec_held_laws.specs.Few.{held_with, lacks, Fewer, FewHeld, TooFewHeld, TooFewMembersHeld, FewFound}
use Rattle.per_codec_held_laws.proofs.Finds.{finds_one}
use Rattle.per_codec_held_laws.proofs.Lifting.{bits_taken, levels_taken, held_at, both_found}

any_bitmap : (r : PackedRules) → IsTrue (freedoms r Per.other_bitmap)
any_bitmap Uper = refl
any_bitmap Aper = refl
any_bitmap UperStrict = refl
any_bitmap AperStrict = refl

any_order : (r : PackedRules) → IsTrue (freedoms r Per.other_order)
any_order Uper = refl
any_order Aper = refl
any_order UperStrict = refl
any_order AperStrict = refl

-- ---- levels
inside_within : (most l m : ℕ) → l ≤ most → inside l ≡ Some m → m ≤ most
inside_within most zero m h e = cc
inside_within most (suc l) m h e = let q : l ≡ m = cc e in omega arith

outside_within : (most l m : ℕ) (b : Bool) → ltb l most ≡ b → cond b (Some (suc l)) None ≡ Some m → m ≤ most
outside_within most l m true t e = let q : suc l ≡ m = cc e in let u = ltb-true l most t in omega arith
outside_within most l m false t e = cc

level_within : (most : ℕ) (r : Record) (l m : ℕ) → l ≤ most → level most r l ≡ Some m → m ≤ most
level_within most (list_begins z h n) l m i e = inside_within most l m i e
level_within most (bag_begins z h n) l m i e = inside_within most l m i e
level_within most (sequence_begins x n) l m i e = inside_within most l m i e
level_within most (set_begins x n) l m i e = inside_within most l m i e
level_within most (group_begins n) l m i e = inside_within most l m i e
level_within most (choice_begins roots x adds plus j) l m i e = inside_within most l m i e
level_within most ends l m i e = outside_within most l m (ltb l most) refl e
level_within most r l m i e = let q : l ≡ m = cc e in omega arith

-- ---- a few bits appended
-- bits are stored where they were
opened_more : (e : List Bool) (s : Storage) (p : Position) (k : List Scope) → opened_in s (place_with e k p) (scopes_with e k) ≡ opened_in s p k
opened_more e s p (open_type rest ∷ k) = refl
opened_more e s p [] = refl
opened_more e s p (components x ms ∷ k) = refl
opened_more e s p (added ms us ∷ k) = refl
opened_more e s p (members n hs ∷ k) = refl
opened_more e s p (alternative ∷ k) = refl

within_more : (e : List Bool) (v : Bool) (l : List Storage) (p : Position) (k : List Scope) → stands_within v l (place_with e k p) (scopes_with e k) ≡ stands_within v l p k
within_more e false l p k = refl
within_more e true [] p k = ap (λ s. s ∷ []) (opened_more e None p k)
within_more e true (s ∷ l) p k = ap (λ t. t ∷ s ∷ l) (opened_more e s p k)

outside_more : (e : List Bool) (k : List Scope) (l : List Storage) → stands_outside (scopes_with e k) l ≡ stands_outside k l
outside_more e (open_type rest ∷ k) l = refl
outside_more e [] l = refl
outside_more e (components x ms ∷ k) l = refl
outside_more e (added ms us ∷ k) l = refl
outside_more e (members n hs ∷ k) l = refl
outside_more e (alternative ∷ k) l = refl

kept_more : (e : List Bool) (a : Held) (r : Record) (p : Position) (k : List Scope) → kept (held_with e a) r (place_with e k p) (scopes_with e k) ≡ kept a r p k
kept_more e a (addition v) p k = within_more e v a.stands p k
kept_more e a addition_ends p k = refl
kept_more e a (choice_begins roots x others v i) p k = within_more e v a.stands p k
kept_more e a ends p k = outside_more e a.scopes a.stands
kept_more e a r p k = refl

finds_more : (e : List Bool) (a : Held) (r : Record) (b : Held) → Finds a r b → Finds (held_with e a) r (held_with e b)
finds_more e a r b t = record {
  ready = t.ready;
  taken = takes_more (is_aligned a.rules) (freedoms a.rules) e (state_of a) r (state_of b) t.taken;
  levels = t.levels;
  most = t.most;
  ready_still = t.ready_still;
  rules = t.rules;
  stands = t.stands ∙ sym (kept_more e a r b.place b.scopes);
}

all_more : (e : List Bool) (rs : List Record) (a b : Held) → Chain Finds rs a b → Chain Finds rs (held_with e a) (held_with e b)
all_more e [] a b c = ap (λ (h : Held). held_with e h) c
all_more e (r ∷ rs) a b c = (held_with e c.0, finds_more e a r c.0 c.1, all_more e rs c.0 b c.2)

found_within : (a : Held) (r : Record) (b : Held) → Finds a r b → a.levels ≤ a.most → b.levels ≤ b.most
found_within a r b t i = let h = level_within a.most r a.levels b.levels i t.levels in let m : b.most ≡ a.most = t.most in omega arith

all_within : (rs : List Record) (a b : Held) → Chain Finds rs a b → a.levels ≤ a.most → b.levels ≤ b.most
all_within [] a b c i = subst (λ (h : Held). h.levels ≤ h.most) (sym c) i
all_within (r ∷ rs) a b c i = all_within rs c.0 b c.2 (found_within a r c.0 c.1 i)

fewer : (m l : ℕ) (a b failed : Held) (e : List Bool) → m ≤ l → (a.levels ≤ a.most → b.levels ≤ b.most) → Fewer l a failed e → Fewer m b failed e
fewer m l a b failed e h w (inl i) = let j = i.1 in inl (w i.0, omega arith)
fewer m l a b failed e h w (inr i) = inr i

pub nothing_more : (a : Held) → a ≡ held_with [] a
nothing_more a = sym (ap (λ (t : State). let h : Held = record {
  place = t.0;
  scopes = t.1;
  levels = a.levels;
  most = a.most;
  failed =
      a.failed;
  rules = a.rules;
  stands = a.stands;
} in h) (more_none (state_of a)))

pub few_at_once : (n : ℕ) (a failed : Held) → FewHeld n a failed a
few_at_once n a failed = ([], nothing_more a, inr refl)

pub at_once : (a failed : Held) → TooFewHeld a failed a
at_once a failed = few_at_once (due a.scopes) a failed

pub held_records : CarriesRecords Finds TooFewHeld
held_records r a b failed c k t f = (
  held_with f.0 b,
  subst (λ (s : Held). Finds s r (held_with f.0 b)) (sym f.1) (finds_more f.0 a r b t),
  (f.0, refl, fewer (due b.scopes) (due a.scopes) a b failed f.0 (takes_owed (is_aligned a.rules) (freedoms a.rules) r (state_of a) (state_of b) k t.taken) (found_within a r b t) f.2),
)

same_scopes : (s : Schema) (v : Value) (a b : Held) → Chain Finds (presents s v) a b → b.scopes ≡ a.scopes
same_scopes s v a b t = (records_read (is_aligned a.rules) (freedoms a.rules) s v (state_of a) (state_of b) (any_bitmap a.rules) (any_order a.rules) (bits_taken (presents s v) a b t)).1

as_many : (m l : ℕ) → m ≡ l → m ≤ l
as_many m l e = omega arith

pub held_values : CarriesValues Finds TooFewHeld
held_values s v a b failed c t f = (
  held_with f.0 b,
  subst (λ (x : Held). Chain Finds (presents s v) x (held_with f.0 b)) (sym f.1) (all_more f.0 (presents s v) a b t),
  (f.0, refl, fewer (due b.scopes) (due a.scopes) a b failed f.0 (as_many (due b.scopes) (due a.scopes) (ap (λ l. due l) (same_scopes s v a b t))) (all_within (presents s v) a b t) f.2),
)

-- one record, and what is due after it
one_found : (r : Record) (m l : ℕ) (a b failed c : Held) → Finds a r b → m ≤ l → FewHeld l a failed c → (d : Held) × Finds c r d × FewHeld m b failed d
one_found r m l a b failed c t h f = (
  held_with f.0 b,
  subst (λ (s : Held). Finds s r (held_with f.0 b)) (sym f.1) (finds_more f.0 a r b t),
  (f.0, refl, fewer m l a b failed f.0 h (found_within a r b t) f.2),
)

level_kept : (a b : Held) (v : Bool) → Finds a (further v) b → b.levels ≡ a.levels
level_kept a b v t = let e : Some a.levels ≡ Some b.levels = t.levels in cc e

-- an element that is due comes in any case; if none is due, none is missing
asked_in : (a failed : Held) → ((c : Held) → TooFewHeld a failed c → (v : Bool) (d : Held) → Finds c (further v) d → ⊥) → (k : List Scope) →
    a.scopes ≡ k → (e : List Bool) → Fewer (due (around k)) a failed e → (v : Bool) (d : Held) → Finds (held_with e a) (further v) d → ⊥
asked_in a failed h (members (suc m) hs ∷ k) q e f v d p =
    let b : Held = record { place = a.place; scopes = members m hs ∷ k; levels = a.levels; most = a.most; failed = a.failed; rules = a.rules; stands = a.stands } in
    let n : NextMember (is_aligned a.rules) (freedoms a.rules) true a.place a.scopes (state_of b) =
    subst (λ l. NextMember (is_aligned a.rules) (freedoms a.rules) true a.place l (state_of b)) (sym q) (refl, refl) in
    let t : Finds a (further true) b = record { ready = p.ready; taken = n; levels = refl; most = refl; ready_still = p.ready; rules = refl; stands = refl } in
    h a (few_at_once (due a.scopes) a failed) true b t
asked_in a failed h (members zero hs ∷ k) q e f v d p =
    let o : due a.scopes ≡ due k = ap (λ l. due l) q ∙ none_owed hs k in
    h (held_with e a) (e, refl, fewer (due a.scopes) (due k) a a failed e (as_many (due a.scopes) (due k) o) (λ i. i) f) v d p
asked_in a failed h [] q e f v d p = absurd (subst (λ l. NextMember (is_aligned a.rules) (freedoms a.rules) v (place_with e a.scopes a.place) (scopes_with e l) (state_of d)) q p.taken)
asked_in a failed h (components x ms ∷ k) q e f v d p = absurd
    (subst (λ l. NextMember (is_aligned a.rules) (freedoms a.rules) v (place_with e a.scopes a.place) (scopes_with e l) (state_of d)) q p.taken)
asked_in a failed h (added ms us ∷ k) q e f v d p = absurd (subst (λ l. NextMember (is_aligned a.rules) (freedoms a.rules) v (place_with e a.scopes a.place) (scopes_with e l) (state_of d)) q p.taken)
asked_in a failed h (open_type r ∷ k) q e f v d p = absurd (subst (λ l. NextMember (is_aligned a.rules) (freedoms a.rules) v (place_with e a.scopes a.place) (scopes_with e l) (state_of d)) q p.taken)
asked_in a failed h (alternative ∷ k) q e f v d p = absurd (subst (λ l. NextMember (is_aligned a.rules) (freedoms a.rules) v (place_with e a.scopes a.place) (scopes_with e l) (state_of d)) q p.taken)

held_asked : (a failed : Held) → ((c : Held) → TooFewHeld a failed c → (v : Bool) (d : Held) → Finds c (further v) d → ⊥) → (c : Held) →
    TooFewMembersHeld a failed c → (v : Bool) (d : Held) → Finds c (further v) d → ⊥
held_asked a failed h c f v d t = asked_in a failed h a.scopes refl f.0 f.2 v d (subst (λ (s : Held). Finds s (further v) d) f.1 t)

-- how deep elements nest
members_deep : (al : Bool) (free : Per.Freedom → Bool) (s : Schema) (most : ℕ) (vs : Values) (a c : State) (l m : ℕ) →
    Chain (Takes al free) (member_records (λ w. presents s w) vs) a c → Chain (Level most) (member_records (λ w. presents s w) vs) l m → l ≤ most → depth_of_members vs ≤ l
unfolding depth_of_members
members_deep al free s most no_more a c l m q r i = omega arith
members_deep al free s most (member v vs) a c l m q r i =
    let k : l ≡ r.0 = let e : Some l ≡ Some r.0 = r.1 in cc e in
    let y = chain_split (Takes al free) (presents s v) (member_records (λ w. presents s w) vs) q.0 c q.2 in
    let z = chain_split (Level most) (presents s v) (member_records (λ w. presents s w) vs) r.0 m r.2 in
    let f = Fitting.records_fit _ _ (λ x y n. n) s v q.0 y.0 y.1 in
    let d = (nests s v most r.0 z.0 f (omega arith)).0 z.1 in
    let o : z.0 ≡ r.0 = d.1 in
    let t = members_deep al free s most vs y.0 c z.0 m y.2 z.2 (omega arith) in
    let u : depth v ≤ r.0 = d.0 in
    omega arith

module _ (s : Schema) (lawful : IsLawful s) (a b failed : Held) (t : Finds a (further true) b)
    (h : (c : Held) → TooFewHeld b failed c → (v : Value) (d : Held) → Fits s v → Chain Finds (presents s v) c d → ⊥) where
  module _ (i : a.levels ≤ a.most) where
    b_within : b.levels ≤ b.most
    b_within = found_within a (further true) b t i

    lacking : (f : List Bool) → (length f + due b.scopes ≤ lacks failed) ⊎ (f ≡ []) → Fewer (due b.scopes) b failed f
    lacking f (inl j) = inl (b_within, j)
    lacking f (inr j) = inr j

    none_there : Absent (is_aligned b.rules) (freedoms b.rules) (any_bitmap b.rules) (any_order b.rules) s b.levels (lacks failed) (state_of b)
    none_there c f v d fits deep q =
        let e : Held = held_with f.0 b in
        let x : Chain (Takes (is_aligned b.rules) (freedoms b.rules)) (presents s v) (state_of e) d =
        subst (λ (y : State). Chain (Takes (is_aligned b.rules) (freedoms b.rules)) (presents s v) y d) f.1 q in
        let l = (nests s v b.most b.levels b.levels fits b_within).1 (deep, refl) in
        let z = both_found (presents s v) e d b.levels t.ready_still x l in
        h e (f.0, refl, lacking f.0 f.2) v (held_at e d b.levels z.0) fits z.1

    held_stuck : (more : List Bool) (d : Held) → (length more + due (around a.scopes) ≤ lacks failed) → Finds (held_with more a) (further true) d →
        (v : Value) (vs : Values) (e : Held) → Chain Finds (presents s v ++ member_records (λ w. presents s w) vs) d e → ⊥
    held_stuck more d j p v vs e q =
        let r : b.rules ≡ a.rules = t.rules in
        let u : d.rules ≡ b.rules = p.rules ∙ sym r in
        let begun : Takes (is_aligned b.rules) (freedoms b.rules) (state_of a) (further true) (state_of b) =
        subst (λ (x : PackedRules). Takes (is_aligned x) (freedoms x) (state_of a) (further true) (state_of b)) (sym r) t.taken in
        let begun' : Takes (is_aligned b.rules) (freedoms b.rules) (with_more more (state_of a)) (further true) (state_of d) =
        subst (λ (x : PackedRules). Takes (is_aligned x) (freedoms x) (with_more more (state_of a)) (further true) (state_of d)) (sym r) p.taken in
        let all : Chain (Takes (is_aligned b.rules) (freedoms b.rules)) (presents s v ++ member_records (λ w. presents s w) vs) (state_of d)
        (state_of e) = subst (λ (x : PackedRules). Chain (Takes (is_aligned x) (freedoms x))
        (presents s v ++ member_records (λ w. presents s w) vs) (state_of d) (state_of e)) u (bits_taken (presents s v ++ member_records (λ w. presents s w) vs) d e q) in
        let depths = levels_taken (presents s v ++ member_records (λ w. presents s w) vs) d e q in
        let y = chain_split (Takes (is_aligned b.rules) (freedoms b.rules)) (presents s v) (member_records (λ w. presents s w) vs) (state_of d) (state_of e) all in
        let z = chain_split (Level d.most) (presents s v) (member_records (λ w. presents s w) vs) d.levels e.levels depths in
        let fits = Fitting.records_fit _ _ (λ x y n. n) s v (state_of d) y.0 y.1 in
        let k : d.levels ≡ a.levels = level_kept (held_with more a) d true p in
        let k' : b.levels ≡ a.levels = level_kept a b true t in
        let w : d.levels ≤ d.most = found_within (held_with more a) (further true) d p i in
        let n = (nests s v d.most d.levels z.0 fits w).0 z.1 in
        let o : z.0 ≡ d.levels = n.1 in
        let dv : depth v ≤ d.levels = n.0 in
        let dvs = members_deep (is_aligned b.rules) (freedoms b.rules) s d.most vs y.0 (state_of e) z.0 e.levels y.2 z.2 (omega arith) in
        stuck_within (is_aligned b.rules) (freedoms b.rules) (any_bitmap b.rules) (any_order b.rules) s b.levels lawful (lacks failed) (state_of a)
        (state_of b) begun none_there (with_more more (state_of a)) (state_of d) (more, refl, inl j) begun' v vs (state_of e) (omega arith) (omega arith) all

  -- if the decoder lacks no more than was there
  same_next : (d : Held) → Finds a (further true) d → d ≡ b
  same_next d p = (finds_one a (further true) (further true) d b refl p t).1

  stuck_at_once : (d : Held) → Finds a (further true) d → (v : Value) (vs : Values) (e : Held) → Fits s v → Chain Finds (presents s v ++ member_records (λ w. presents s w) vs) d e → ⊥
  stuck_at_once d p v vs e i q =
      let y = chain_split Finds (presents s v) (member_records (λ w. presents s w) vs) d e q in
      h b (few_at_once (due b.scopes) b failed) v y.0 i (subst (λ (x : Held). Chain Finds (presents s v) x y.0) (same_next d p) y.1)

  stuck_by : (more : List Bool) → Fewer (due (around a.scopes)) a failed more → (d : Held) → Finds (held_with more a) (further true) d →
      (v : Value) (vs : Values) (e : Held) → Fits s v → Chain Finds (presents s v ++ member_records (λ w. presents s w) vs) d e → ⊥
  stuck_by more (inl j) d p v vs e i q = held_stuck j.0 more d j.1 p v vs e q
  stuck_by more (inr j) d p v vs e i q =
      let k : held_with more a ≡ a = ap (λ l. held_with l a) j ∙ sym (nothing_more a) in
      stuck_at_once d (subst (λ (x : Held). Finds x (further true) d) k p) v vs e i q

around_list : (z : Size) (h : Counts) (n : ℕ) (a b : Held) → Finds a (list_begins z h n) b → due (around b.scopes) ≤ due a.scopes
around_list z h n a b t = as_many (due (around b.scopes)) (due a.scopes)
    (ap (λ l. due l) (list_around (is_aligned a.rules) (freedoms a.rules) (any_bitmap a.rules) (any_order a.rules) z h n (state_of a) (state_of b) t.taken))

around_bag : (z : Size) (h : Counts) (n : ℕ) (a b : Held) → Finds a (bag_begins z h n) b → due (around b.scopes) ≤ due a.scopes
around_bag z h n a b t = as_many (due (around b.scopes)) (due a.scopes)
    (ap (λ l. due l) (list_around (is_aligned a.rules) (freedoms a.rules) (any_bitmap a.rules) (any_order a.rules) z h n (state_of a) (state_of b) t.taken))

pub held_members : CarriesMembers Finds TooFewHeld TooFewMembersHeld
held_members = record {
  list = λ z h n a b failed c t f. one_found (list_begins z h n) (due (around b.scopes)) (due a.scopes) a b failed c t (around_list z h n a b t) f;
  bag = λ z h n a b failed c t f. one_found (bag_begins z h n) (due (around b.scopes)) (due a.scopes) a b failed c t (around_bag z h n a b t) f;
  coming = λ a b failed c t f. (held_with f.0 b, subst (λ (s : Held). Finds s (further true) (held_with f.0 b)) (sym f.1) (finds_more f.0 a (further true) b t));
  member = λ s v a m b failed c t q f. (
    held_with f.0 m,
    held_with f.0 b,
    subst (λ (x : Held). Finds x (further true) (held_with f.0 m)) (sym f.1) (finds_more f.0 a (further true) m t),
    all_more f.0 (presents s v) m b q,
    (
      f.0,
      refl,
      fewer (due (around b.scopes)) (due (around a.scopes)) a b failed f.0
          (as_many (due (around b.scopes)) (due (around a.scopes)) (ap (λ l. due (around l)) (same_scopes s v m b q) ∙
          ap (λ l. due l) (around_member (is_aligned a.rules) (freedoms a.rules) (any_bitmap a.rules) (any_order a.rules) true a.place a.scopes
          (state_of m) t.taken))) (λ i. all_within (presents s v) m b q (found_within a (further true) m t i)) f.2,
    ),
  );
  last = λ a b failed c t f. one_found (further false) (due b.scopes) (due (around a.scopes)) a b failed c t
      (as_many (due b.scopes) (due (around a.scopes)) (last_owed (is_aligned a.rules) (freedoms a.rules) (any_bitmap a.rules) (any_order a.rules) a.place a.scopes (state_of b) t.taken)) f;
  asked = held_asked;
  stuck = λ s lawful a b failed t h c d f g v vs e i q. stuck_by s lawful a b failed t h f.0 f.2 d (subst (λ (x : Held). Finds x (further true) d) f.1 g) v vs e i q;
}

pub few_carried : FewFound
few_carried = (held_records, held_values, held_members)
