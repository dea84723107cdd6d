-- Total orders; sorting by one does not depend on the initial order.
use Rattle.std.proofs.Common.{◌≡◌, ℕ, zero, suc, ltb, Bool, true, false, cond, List, [], ◌∷◌, map, Option, Some, option_map, option_and_then, refl, ap, sym, ◌∙◌, subst, arith}
use Rattle.std.proofs.lemmas.Bool.{ltb-true, ltb-false, lt-ltb, le-ltb, cond-true, cond-false}
use Rattle.asn1_model.specs.Form.{stands_before, put_in_place, with_keys, ascending, pick, arranged}
use Rattle.asn1_model.specs.Per.{bit_less}
use Rattle.asn1_model.proofs.Forms.{chain_parts, map_parts}
use Rattle.asn1_laws_values.proofs.Arranged.{arranged_parts}
use Rattle.asn1_laws_across.specs.OrderLaws.{IsTotalOrder}

-- ---- lists are ordered as their elements are
differ : {P : Type 0} → true ≡ false → P
differ e = cc

module _ (A : Type 0) (less : A → A → Bool) (o : IsTotalOrder less) where
  never_itself : (x : A) → less x x ≡ true → ⊥
  never_itself x e = differ (sym e ∙ o.0 x)

  lists_irreflexive : (xs : List A) → stands_before less xs xs ≡ false
  lists_irreflexive [] = refl
  lists_irreflexive (x ∷ xs) = let e = o.0 x in rw e (lists_irreflexive xs)

  equal_lists : (xs ys : List A) → stands_before less xs ys ≡ false → stands_before less ys xs ≡ false → xs ≡ ys
  equal_lists [] [] e f = refl
  equal_lists [] (y ∷ ys) e f = cc
  equal_lists (x ∷ xs) [] e f = cc
  equal_lists (x ∷ xs) (y ∷ ys) e f = go (less x y) (less y x) refl refl e f (λ g h. equal_lists xs ys g h)
    where
      go : (s t : Bool) → less x y ≡ s → less y x ≡ t → cond s true (cond t false (stands_before less xs ys)) ≡ false →
          cond t true (cond s false (stands_before less ys xs)) ≡ false → (stands_before less xs ys ≡ false → stands_before less ys xs ≡ false → xs ≡ ys) → x ∷ xs ≡ y ∷ ys
      go true t p q g h k = cc
      go false true p q g h k = cc
      go false false p q g h k = let a = o.2 x y p q in let b = k g h in cc

  chained_lists : (xs ys zs : List A) → stands_before less xs ys ≡ true → stands_before less ys zs ≡ true → stands_before less xs zs ≡ true
  chained_lists [] [] zs e f = cc
  chained_lists [] (y ∷ ys) [] e f = cc
  chained_lists [] (y ∷ ys) (z ∷ zs) e f = refl
  chained_lists (x ∷ xs) [] zs e f = cc
  chained_lists (x ∷ xs) (y ∷ ys) [] e f = cc
  chained_lists (x ∷ xs) (y ∷ ys) (z ∷ zs) e f = go (less x y) (less y x) (less y z) (less z y) refl refl refl refl e f (λ g h. chained_lists xs ys zs g h)
    where
      go : (a b c d : Bool) → less x y ≡ a → less y x ≡ b → less y z ≡ c → less z y ≡ d →
          cond a true (cond b false (stands_before less xs ys)) ≡ true → cond c true (cond d false (stands_before less ys zs))
          ≡ true → (stands_before less xs ys ≡ true → stands_before less ys zs ≡ true → stands_before less xs zs ≡ true) →
          cond (less x z) true (cond (less z x) false (stands_before less xs zs)) ≡ true
      go true b true d p q r s g h k = let i = o.1 x y z p r in rw i refl
      go true b false true p q r s g h k = cc
      go true b false false p q r s g h k = let l : y ≡ z = o.2 y z r s in let i : less x z ≡ true = subst (λ u. less x u ≡ true) l p in rw i refl
      go false true c d p q r s g h k = cc
      go false false true d p q r s g h k = let l : x ≡ y = o.2 x y p q in let i : less x z ≡ true = subst (λ u. less u z ≡ true) (sym l) r in rw i refl
      go false false false true p q r s g h k = cc
      go false false false false p q r s g h k =
          let l : x ≡ y = o.2 x y p q in
          let m : y ≡ z = o.2 y z r s in
          let i : less x z ≡ false = subst (λ u. less x u ≡ false) (l ∙ m) (o.0 x) in
          let j : less z x ≡ false = subst (λ u. less u x ≡ false) (l ∙ m) (o.0 x) in
          rw (i, j) (k g h)

  pub lists_ordered : IsTotalOrder (stands_before less)
  lists_ordered = (lists_irreflexive, chained_lists, equal_lists)

  -- ---- sorting
  abbrev pub insert : A → List A → List A
  insert k [] = k ∷ []
  insert k (f ∷ fs) = cond (less f k) (f ∷ insert k fs) (k ∷ f ∷ fs)

  abbrev pub sorted : List A → List A
  sorted [] = []
  sorted (k ∷ ks) = insert k (sorted ks)

  behind : (k f : A) (fs : List A) → less f k ≡ true → insert k (f ∷ fs) ≡ f ∷ insert k fs
  behind k f fs e = cond-true (less f k) _ _ e

  in_front : (k f : A) (fs : List A) → less f k ≡ false → insert k (f ∷ fs) ≡ k ∷ f ∷ fs
  in_front k f fs e = cond-false (less f k) _ _ e

  two_firsts : (a b : A) (fs : List A) → cond (less b a) (b ∷ a ∷ fs) (a ∷ b ∷ fs) ≡ cond (less a b) (a ∷ b ∷ fs) (b ∷ a ∷ fs)
  two_firsts a b fs = go (less b a) (less a b) refl refl
    where
      go : (s t : Bool) → less b a ≡ s → less a b ≡ t → cond s (b ∷ a ∷ fs) (a ∷ b ∷ fs) ≡ cond t (a ∷ b ∷ fs) (b ∷ a ∷ fs)
      go true true p q = absurd (never_itself a (o.1 a b a q p))
      go true false p q = refl
      go false true p q = refl
      go false false p q = let e : a ≡ b = o.2 a b q p in cc

  -- what is not greater than another, which is less than a third, is less than the third
  before_third : (a f b : A) → less f a ≡ false → less f b ≡ true → less a b ≡ true
  before_third a f b e g = go (less a f) refl
    where
      go : (t : Bool) → less a f ≡ t → less a b ≡ true
      go true p = o.1 a f b p g
      go false p = subst (λ u. less u b ≡ true) (sym (o.2 a f p e)) g

  inserts_commute : (a b : A) (fs : List A) → insert a (insert b fs) ≡ insert b (insert a fs)
  inserts_commute a b [] = two_firsts a b []
  inserts_commute a b (f ∷ fs) = go (less f b) (less f a) refl refl (inserts_commute a b fs)
    where
      go : (s t : Bool) → less f b ≡ s → less f a ≡ t → insert a (insert b fs) ≡ insert b (insert a fs) → insert a (insert b (f ∷ fs)) ≡ insert b (insert a (f ∷ fs))
      go true true p q i = ap (insert a) (behind b f fs p) ∙ behind a f (insert b fs) q ∙ ap (λ l. f ∷ l) i ∙ sym (behind b f (insert a fs) p) ∙ ap (insert b) (sym (behind a f fs q))
      go true false p q i = ap (insert a) (behind b f fs p) ∙ in_front a f (insert b fs) q ∙ ap (λ l. a ∷ l) (sym (behind b f fs p))
          ∙ sym (behind b a (f ∷ fs) (before_third a f b q p)) ∙ ap (insert b) (sym (in_front a f fs q))
      go false true p q i = ap (insert a) (in_front b f fs p) ∙ behind a b (f ∷ fs) (before_third b f a p q)
          ∙ ap (λ l. b ∷ l) (behind a f fs q) ∙ sym (in_front b f (insert a fs) p) ∙ ap (insert b) (sym (behind a f fs q))
      go false false p q i = ap (insert a) (in_front b f fs p)
          ∙ ap (λ l. cond (less b a) (b ∷ l) (a ∷ b ∷ f ∷ fs)) (in_front a f fs q) ∙ two_firsts a b (f ∷ fs)
          ∙ ap (λ l. cond (less a b) (a ∷ l) (b ∷ a ∷ f ∷ fs)) (sym (in_front b f fs p)) ∙ ap (insert b) (sym (in_front a f fs q))

  some_same : {X : Type 0} {x y : X} → Some x ≡ Some y → x ≡ y
  some_same e = cc

  picked_sorted : (i : ℕ) (ks rest : List A) (k : A) → pick i ks ≡ Some (k, rest) → sorted ks ≡ insert k (sorted rest)
  picked_sorted i [] rest k e = cc
  picked_sorted zero (l ∷ ks) rest k e =
      let p : A × List A = (l, ks) in
      let q : A × List A = (k, rest) in
      let g : p ≡ q = some_same e in
      ap (λ (r : A × List A). insert r.0 (sorted r.1)) g
  picked_sorted (suc i) (l ∷ ks) rest k e =
      let q = map_parts (pick i ks) (λ (p : A × List A). (p.0, l ∷ p.1)) (k, rest) e in
      let r = picked_sorted i ks q.0.1 q.0.0 q.1 in
      ap (insert l) r ∙ inserts_commute l q.0.0 (sorted q.0.1) ∙ ap (λ (p : A × List A). insert p.0 (sorted p.1)) q.2

  -- in whatever order they come
  pub arranged_sorted : (is : List ℕ) (ks ls : List A) → arranged is ks ≡ Some ls → sorted ks ≡ sorted ls
  arranged_sorted [] [] ls e = ap sorted (some_same e)
  arranged_sorted [] (k ∷ ks) ls e = cc
  arranged_sorted (i ∷ is) ks ls e =
      let q = arranged_parts i is ks ls e in
      picked_sorted i ks q.1 q.0 q.3 ∙ ap (insert q.0) (arranged_sorted is q.1 q.2 q.4) ∙ ap sorted q.5

  -- ---- elements sorted by their keys
  module _ (X : Type 0) (key : X → Option A) where
    -- the keys of elements, if each has one
    abbrev pub HaveKeys : List X → List A → Type 0
    HaveKeys [] [] = Unit {0}
    HaveKeys (x ∷ xs) (k ∷ ks) = (key x ≡ Some k) × HaveKeys xs ks
    HaveKeys xs ks = ⊥

    abbrev EachKeyed : List (A × X) → Type 0
    EachKeyed [] = Unit {0}
    EachKeyed (e ∷ es) = (key e.1 ≡ Some e.0) × EachKeyed es

    put_keys : (k : A) (x : X) (es : List (A × X)) → map (λ e. e.0) (put_in_place less (k, x) es) ≡ insert k (map (λ e. e.0) es)
    put_keys k x [] = refl
    put_keys k x (f ∷ fs) = go (less (f.0) k) (put_keys k x fs)
      where
        go : (t : Bool) → map (λ e. e.0) (put_in_place less (k, x) fs) ≡ insert k (map (λ e. e.0) fs) →
            map (λ e. e.0) (cond t (f ∷ put_in_place less (k, x) fs) ((k, x) ∷ f ∷ fs)) ≡ cond t (f.0 ∷ insert k (map (λ e. e.0) fs)) (k ∷ f.0 ∷ map (λ e. e.0) fs)
        go true i = ap (λ l. f.0 ∷ l) i
        go false i = refl

    put_keyed : (k : A) (x : X) (es : List (A × X)) → key x ≡ Some k → EachKeyed es → EachKeyed (put_in_place less (k, x) es)
    put_keyed k x [] e h = (e, tt)
    put_keyed k x (f ∷ fs) e h = go (less (f.0) k) (put_keyed k x fs e h.1)
      where
        go : (t : Bool) → EachKeyed (put_in_place less (k, x) fs) → EachKeyed (cond t (f ∷ put_in_place less (k, x) fs) ((k, x) ∷ f ∷ fs))
        go true i = (h.0, i)
        go false i = (e, h)

    keyed : (xs : List X) (es : List (A × X)) → with_keys key less xs ≡ Some es → (ks : List A) × HaveKeys xs ks × (map (λ e. e.0) es ≡ sorted ks) × EachKeyed es
    keyed [] es h = ([], tt, ap (λ l. map (λ (e : A × X). e.0) l) (some_same (sym h)), subst EachKeyed (some_same h) tt)
    keyed (x ∷ xs) es h =
        let q = chain_parts (key x) (λ k. option_map (λ es. put_in_place less (k, x) es) (with_keys key less xs)) es h in
        let r = map_parts (with_keys key less xs) (λ es. put_in_place less (q.0, x) es) es q.2 in
        let i = keyed xs r.0 r.1 in
        (q.0 ∷ i.0, (q.1, i.1), ap (λ l. map (λ (e : A × X). e.0) l) (sym r.2) ∙ put_keys q.0 x r.0 ∙ ap (insert q.0) i.2, subst EachKeyed r.2 (put_keyed q.0 x r.0 q.1 i.3))

    keys_there : (xs : List X) (ks : List A) → HaveKeys xs ks → (es : List (A × X)) × (with_keys key less xs ≡ Some es) × (map (λ e. e.0) es ≡ sorted ks) × EachKeyed es
    keys_there [] [] h = ([], refl, refl, tt)
    keys_there [] (k ∷ ks) h = absurd h
    keys_there (x ∷ xs) [] h = absurd h
    keys_there (x ∷ xs) (k ∷ ks) h =
        let i = keys_there xs ks h.1 in
        (put_in_place less (k, x) i.0, again (key x) (with_keys key less xs) h.0 i.1, put_keys k x i.0 ∙ ap (insert k) i.2, put_keyed k x i.0 h.0 i.3)
      where
        again : (o : Option A) (w : Option (List (A × X))) {es : List (A × X)} → o ≡ Some k → w ≡ Some es →
            option_and_then (λ k. option_map (λ es. put_in_place less (k, x) es) w) o ≡ Some (put_in_place less (k, x) es)
        again o w e f = rw (e, f) refl

    -- elements in pairs that have the same key
    abbrev pub EachAlike : List X → List X → Type 0
    EachAlike [] [] = Unit {0}
    EachAlike (x ∷ xs) (y ∷ ys) = ((k : A) × (key x ≡ Some k) × (key y ≡ Some k)) × EachAlike xs ys
    EachAlike xs ys = ⊥

    alike_of : (es fs : List (A × X)) → EachKeyed es → EachKeyed fs → map (λ e. e.0) es ≡ map (λ e. e.0) fs → EachAlike (map (λ e. e.1) es) (map (λ e. e.1) fs)
    alike_of [] [] h i m = tt
    alike_of [] (f ∷ fs) h i m = cc
    alike_of (e ∷ es) [] h i m = cc
    alike_of (e ∷ es) (f ∷ fs) h i m =
        let a : e.0 ≡ f.0 = cc in
        let b : map (λ (e : A × X). e.0) es ≡ map (λ (e : A × X). e.0) fs = cc in
        ((e.0, h.0, i.0 ∙ ap Some (sym a)), alike_of es fs h.1 i.1 b)

    -- elements that have the same keys in some order are sorted into pairs that have the same key
    pub sorted_alike : (xs ys us : List X) (ks : (zs : List A) → HaveKeys xs zs →
        (ls : List A) × HaveKeys ys ls × (sorted zs ≡ sorted ls)) → ascending key less xs ≡ Some us → (zs : List X) × (ascending key less ys ≡ Some zs) × EachAlike us zs
    sorted_alike xs ys us ks e =
        let q = map_parts (with_keys key less xs) (λ (es : List (A × X)). map (λ e. e.1) es) us e in
        let r = keyed xs q.0 q.1 in
        let l = ks r.0 r.1 in
        let s = keys_there ys l.0 l.1 in
        let m : map (λ (e : A × X). e.0) q.0 ≡ map (λ (e : A × X). e.0) s.0 = r.2 ∙ l.2 ∙ sym s.2 in
        (map (λ e. e.1) s.0, ap (λ o. option_map (map (λ (e : A × X). e.1)) o) s.1, subst (λ u. EachAlike u (map (λ e. e.1) s.0)) q.2 (alike_of q.0 s.0 r.3 s.3 m))

-- ---- numbers and bits
pub numbers_ordered : IsTotalOrder ltb
numbers_ordered = (
  λ x. le-ltb x x (omega arith),
  λ x y z e f. let a = ltb-true x y e in let b = ltb-true y z f in
      lt-ltb x z (omega arith),
  λ x y e f. let a = ltb-false x y e in let b = ltb-false y x f in omega arith,
)

bit_irreflexive : (a : Bool) → bit_less a a ≡ false
bit_irreflexive true = refl
bit_irreflexive false = refl

bit_chained : (a b c : Bool) → bit_less a b ≡ true → bit_less b c ≡ true → bit_less a c ≡ true
bit_chained true b c e f = cc
bit_chained false true c e f = cc
bit_chained false false c e f = cc

bit_equal : (a b : Bool) → bit_less a b ≡ false → bit_less b a ≡ false → a ≡ b
bit_equal true true e f = refl
bit_equal true false e f = cc
bit_equal false true e f = cc
bit_equal false false e f = refl

pub bits_ordered : IsTotalOrder bit_less
bits_ordered = (bit_irreflexive, bit_chained, bit_equal)
