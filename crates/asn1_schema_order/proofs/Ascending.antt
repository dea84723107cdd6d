-- A list in ascending order, in which equal elements keep their order, is the one that the model's arrangement gives.
use Rattle.std.proofs.Common.{◌≡◌, ℕ, suc, ◌<◌, ◌≤◌, Bool, true, false, cond, not, ltb, ◌&&◌, List, [], ◌∷◌, ◌++◌, length, map, get_or, Some, option_map, refl, ap, sym, ◌∙◌, arith, inl, inr}
use Rattle.std.specs.Prelude.{◌==◌, ⊤}
use Rattle.std.specs.List.{filter}
use Rattle.std.specs.List.Sorted.{IsSortedBy, IsStableBy, ties}
use Rattle.std.specs.Cmp.{IsStrictWeakOrder}
use Rattle.std.specs.Cmp.Lexicographic.{slice_cmp}
use Rattle.std.specs.Ordering.{is_lt, nat_cmp, ordering_then}
use Rattle.std.specs.declared.cmp.Ordering.{Ordering}
use Rattle.std.specs.declared.cmp.Ordering.TheVariants.{Less, Equal, Greater}
use Rattle.std.proofs.lemmas.Bool.{cases_eq, lt-ltb, le-ltb, ltb-false, eq-eqb, ne_eqb}
use Rattle.std.proofs.lemmas.Cmp.{nat_list_cmp_total}
use Rattle.std.proofs.lemmas.List.MinMax.{ranks_by}
use Rattle.std.proofs.lemmas.List.Sorted.{sorted_far}
use Rattle.asn1_model.specs.Form.{ascending, stands_before, put_in_place, with_keys}

-- ---- the order of lists of octets is that of slices

by_tests : (a b c : Bool) (t : Bool) (r : Ordering) → t ≡ is_lt r → (a ≡ false → b ≡ not c) → cond a true (cond b false t) ≡ is_lt (ordering_then (cond a Less (cond c Equal Greater)) r)
by_tests true b c t r e h = refl
by_tests false true true t r e h = let no : true ≡ false = h refl in cc
by_tests false true false t r e h = refl
by_tests false false true t r e h = e
by_tests false false false t r e h = let no : false ≡ true = h refl in cc

above_or_same : (x y : ℕ) → ltb x y ≡ false → ltb y x ≡ not (x == y)
above_or_same x y h = elim (cases_eq x y) [
  | inl e ↦ le-ltb y x (omega arith) ∙ ap not (sym (eq-eqb x y e))
  | inr ne ↦ lt-ltb y x (above x y h ne) ∙ ap not (sym (ne_eqb x y ne))
]
  where
    above : (x y : ℕ) → ltb x y ≡ false → (x ≡ y → ⊥) → y < x
    above x y h ne = omega (arith, ltb-false x y h, ne)

stands_by : (xs ys : List ℕ) → stands_before ltb xs ys ≡ is_lt (slice_cmp nat_cmp xs ys)
stands_by [] [] = refl
stands_by [] (y ∷ ys) = refl
stands_by (x ∷ xs) [] = refl
stands_by (x ∷ xs) (y ∷ ys) = by_tests (ltb x y) (ltb y x) (x == y) _ _ (stands_by xs ys) (above_or_same x y)

-- ---- one element after another, each inserted

module _ {X : Type 0} (lt : X → X → Bool) where
  abbrev put : X → List X → List X
  put e [] = e ∷ []
  put e (f ∷ fs) = cond (lt f e) (f ∷ put e fs) (e ∷ f ∷ fs)

  abbrev in_turn : List X → List X
  in_turn [] = []
  in_turn (x ∷ xs) = put x (in_turn xs)

  abbrev Above : X → List X → Type 0
  Above x [] = ⊤
  Above x (y ∷ ys) = (lt y x ≡ false) × Above x ys

  abbrev Up : List X → Type 0
  Up [] = ⊤
  Up (x ∷ xs) = Above x xs × Up xs

  module _ (o : IsStrictWeakOrder lt) where
    itself : (x : X) → lt x x ≡ false
    itself x = go (lt x x) refl
      where
        go : (b : Bool) → lt x x ≡ b → lt x x ≡ false
        go true e = o.one_way x x e
        go false e = e

    above_put : (f e : X) (fs : List X) → lt e f ≡ false → Above f fs → Above f (put e fs)
    above_put f e [] h a = (h, tt)
    above_put f e (g ∷ gs) h a = go (lt g e) (above_put f e gs h a.1)
      where
        go : (b : Bool) → Above f (put e gs) → Above f (cond b (g ∷ put e gs) (e ∷ g ∷ gs))
        go true r = (a.0, r)
        go false r = (h, a)

    above_chain : (e f : X) (fs : List X) → lt f e ≡ false → Above f fs → Above e fs
    above_chain e f [] h a = tt
    above_chain e f (g ∷ gs) h a = (o.chain g f e a.0 h, above_chain e f gs h a.1)

    up_put : (e : X) (es : List X) → Up es → Up (put e es)
    up_put e [] u = (tt, tt)
    up_put e (f ∷ fs) u = go (lt f e) refl (up_put e fs u.1)
      where
        go : (b : Bool) → lt f e ≡ b → Up (put e fs) → Up (cond b (f ∷ put e fs) (e ∷ f ∷ fs))
        go true h r = (above_put f e fs (o.one_way f e h) u.0, r)
        go false h r = ((h, above_chain e f fs h u.0), u)

    up_in_turn : (xs : List X) → Up (in_turn xs)
    up_in_turn [] = tt
    up_in_turn (x ∷ xs) = up_put x (in_turn xs) (up_in_turn xs)

    -- ---- equal elements keep their order

    not_both : (x e f : X) → lt f e ≡ true → ties lt x f ≡ true → ties lt x e ≡ true → ⊥
    not_both x e f h a b = apart (sym h ∙ o.chain f x e (second (lt x f) (lt f x) a) (first (lt x e) (lt e x) b))
      where
        apart : true ≡ false → ⊥
        apart p = absurd (cc)

        first : (p q : Bool) → (not p && not q) ≡ true → p ≡ false
        first true q h = sym h
        first false q h = refl

        second : (p q : Bool) → (not p && not q) ≡ true → q ≡ false
        second true q h = absurd (cc)
        second false true h = sym h
        second false false h = refl

    kept_put : (x e : X) (es : List X) → filter (ties lt x) (put e es) ≡ filter (ties lt x) (e ∷ es)
    kept_put x e [] = refl
    kept_put x e (f ∷ fs) = go (lt f e) refl (kept_put x e fs)
      where
        swap : (a b : Bool) (l m : List X) → (a ≡ true → b ≡ true → ⊥) → m ≡ cond b (e ∷ l) l → cond a (f ∷ m) m ≡ cond b (e ∷ cond a (f ∷ l) l) (cond a (f ∷ l) l)
        swap true true l m n h = absurd (n refl refl)
        swap true false l m n h = ap (λ k. f ∷ k) h
        swap false b l m n h = h

        go : (b : Bool) → lt f e ≡ b → filter (ties lt x) (put e fs) ≡ filter (ties lt x) (e ∷ fs) → filter (ties lt x) (cond b (f ∷ put e fs) (e ∷ f ∷ fs)) ≡ filter (ties lt x) (e ∷ f ∷ fs)
        go true h r = swap (ties lt x f) (ties lt x e) (filter (ties lt x) fs) _ (not_both x e f h) r
        go false h r = refl

    kept_in_turn : (x : X) (xs : List X) → filter (ties lt x) (in_turn xs) ≡ filter (ties lt x) xs
    kept_in_turn x [] = refl
    kept_in_turn x (y ∷ ys) = kept_put x y (in_turn ys) ∙ ap (λ l. cond (ties lt x y) (y ∷ l) l) (kept_in_turn x ys)

    -- ---- there is only one such list

    tied_itself : (x : X) → ties lt x x ≡ true
    tied_itself x = ap (λ b. not b && not b) (itself x)

    first_kept : (x : X) (xs : List X) → filter (ties lt x) (x ∷ xs) ≡ x ∷ filter (ties lt x) xs
    first_kept x xs = ap (λ b. cond b (x ∷ filter (ties lt x) xs) (filter (ties lt x) xs)) (tied_itself x)

    first_of : (p q : Bool) → (not p && not q) ≡ true → p ≡ false
    first_of true q h = sym h
    first_of false q h = refl

    -- what ties with one of those that are not below y is not below y
    not_below : (z y w : X) (ys l : List X) → Above y ys → filter (ties lt z) ys ≡ w ∷ l → lt z y ≡ false
    not_below z y w [] l a e = cc
    not_below z y w (v ∷ vs) l a e = go (not_below z y w vs l a.1) (ties lt z v) refl e
      where
        go : (filter (ties lt z) vs ≡ w ∷ l → lt z y ≡ false) → (b : Bool) → ties lt z v ≡ b → cond b (v ∷ filter (ties lt z) vs) (filter (ties lt z) vs) ≡ w ∷ l → lt z y ≡ false
        go r true t h = o.chain z v y (first_of (lt z v) (lt v z) t) a.0
        go r false t h = r h

    same_rest : (b : Bool) (y z : X) (l m : List X) → y ≡ z → cond b (y ∷ l) l ≡ cond b (z ∷ m) m → l ≡ m
    same_rest true y z l m e h = cc
    same_rest false y z l m e h = h

    heads : (y z : X) (l m : List X) → y ∷ l ≡ z ∷ m → y ≡ z
    heads y z l m e = cc

    only_one : (ys zs : List X) → Up ys → Up zs → ((x : X) → filter (ties lt x) ys ≡ filter (ties lt x) zs) → ys ≡ zs
    only_one [] [] u v s = refl
    only_one [] (z ∷ zs) u v s = let e : [] ≡ z ∷ filter (ties lt z) zs = s z ∙ first_kept z zs in cc
    only_one (y ∷ ys) [] u v s = let e : y ∷ filter (ties lt y) ys ≡ [] = sym (first_kept y ys) ∙ s y in cc
    only_one (y ∷ ys) (z ∷ zs) u v s =
        let a : lt z y ≡ false = not_below z y z (y ∷ ys) _ (itself y, u.0) (s z ∙ first_kept z zs) in
        let b : lt y z ≡ false = not_below y z y (z ∷ zs) _ (itself z, v.0) (sym (s y) ∙ first_kept y ys) in
        let t : ties lt y z ≡ true = ap (λ p. not p && not (lt z y)) b ∙ ap (λ p. true && not p) a in
        let same : y ≡ z = heads y z (filter (ties lt y) ys) (filter (ties lt y) zs) (sym (first_kept y ys) ∙ s y ∙ ap (λ p. cond p (z ∷ filter (ties lt y) zs) (filter (ties lt y) zs)) t) in
        let rest : ys ≡ zs = only_one ys zs u.1 v.1 (λ x. same_rest (ties lt x y) y z _ _ same (s x ∙ ap (λ w. cond (ties lt x w) (z ∷ filter (ties lt x) zs) (filter (ties lt x) zs)) (sym same))) in
        ap (λ w. w ∷ ys) same ∙ ap (λ l. z ∷ l) rest

    -- ---- what a stable sort gives

    above_of : (x : X) (xs : List X) → ((k : ℕ) → k < length xs → lt (get_or xs k x) x ≡ false) → Above x xs
    above_of x [] h = tt
    above_of x (y ∷ ys) h = (h 0 (omega arith), above_of x ys (λ k p. h (suc k) (omega arith)))

    up_of : (xs : List X) → ((i j : ℕ) (d : X) → i ≤ j → j < length xs → lt (get_or xs j d) (get_or xs i d) ≡ false) → Up xs
    up_of [] h = tt
    up_of (x ∷ xs) h = (above_of x xs (λ k p. h 0 (suc k) x (omega arith) (omega arith)), up_of xs (λ i j d p q. h (suc i) (suc j) d (omega arith) (omega arith)))

    sorted_in_turn : (xs ys : List X) → IsSortedBy lt ys → IsStableBy lt xs ys → in_turn xs ≡ ys
    sorted_in_turn xs ys up stable = only_one (in_turn xs) ys (up_in_turn xs) (up_of ys (sorted_far lt o ys up)) (λ x. kept_in_turn x xs ∙ sym (stable x))

-- ---- two orders that agree on what a list holds

abbrev pub Each : {X : Type 0} → (X → Type 0) → List X → Type 0
Each P [] = ⊤
Each P (x ∷ xs) = P x × Each P xs

pub each_push : {X : Type 0} (P : X → Type 0) (xs : List X) (x : X) → Each P xs → P x → Each P (xs ++ x ∷ [])
each_push P [] x q p = (p, tt)
each_push P (y ∷ ys) x q p = (q.0, each_push P ys x q.1 p)

module _ {X : Type 0} (P : X → Type 0) (lt other : X → X → Bool) (agree : (x y : X) → P x → P y → lt x y ≡ other x y) where
  put_each : (e : X) (es : List X) → P e → Each P es → Each P (put lt e es)
  put_each e [] p q = (p, tt)
  put_each e (f ∷ fs) p q = go (lt f e) (put_each e fs p q.1)
    where
      go : (b : Bool) → Each P (put lt e fs) → Each P (cond b (f ∷ put lt e fs) (e ∷ f ∷ fs))
      go true h = (q.0, h)
      go false h = (p, q)

  in_turn_each : (xs : List X) → Each P xs → Each P (in_turn lt xs)
  in_turn_each [] q = tt
  in_turn_each (x ∷ xs) q = put_each x (in_turn lt xs) q.0 (in_turn_each xs q.1)

  put_alike : (e : X) (es : List X) → P e → Each P es → put lt e es ≡ put other e es
  put_alike e [] p q = refl
  put_alike e (f ∷ fs) p q = ap (λ b. cond b (f ∷ put lt e fs) (e ∷ f ∷ fs)) (agree f e q.0 p) ∙ ap (λ l. cond (other f e) (f ∷ l) (e ∷ f ∷ fs)) (put_alike e fs p q.1)

  in_turn_alike : (xs : List X) → Each P xs → in_turn lt xs ≡ in_turn other xs
  in_turn_alike [] q = refl
  in_turn_alike (x ∷ xs) q = put_alike x (in_turn lt xs) q.0 (in_turn_each xs q.1) ∙ ap (put other x) (in_turn_alike xs q.1)

-- ---- the model's arrangement

module _ {X : Type 0} (key : X → List ℕ) where
  abbrev before : X → X → Bool
  before x y = stands_before ltb (key x) (key y)

  abbrev keyed : X → List ℕ × X
  keyed x = (key x, x)

  put_keyed : (e : X) (es : List X) → put_in_place (stands_before ltb) (keyed e) (map keyed es) ≡ map keyed (put before e es)
  put_keyed e [] = refl
  put_keyed e (f ∷ fs) = go (before f e) (put_keyed e fs)
    where
      go : (b : Bool) → put_in_place (stands_before ltb) (keyed e) (map keyed fs) ≡ map keyed (put before e fs) →
          cond b (keyed f ∷ put_in_place (stands_before ltb) (keyed e) (map keyed fs)) (keyed e ∷ keyed f ∷ map keyed fs) ≡ map keyed (cond b (f ∷ put before e fs) (e ∷ f ∷ fs))
      go true h = ap (λ l. keyed f ∷ l) h
      go false h = refl

  all_keyed : (xs : List X) → with_keys (λ x. Some (key x)) (stands_before ltb) xs ≡ Some (map keyed (in_turn before xs))
  all_keyed [] = refl
  all_keyed (x ∷ xs) = ap (option_map (λ es. put_in_place (stands_before ltb) (keyed x) es)) (all_keyed xs) ∙ ap Some (put_keyed x (in_turn before xs))

  plain : (xs : List X) → map (λ e. e.1) (map keyed xs) ≡ xs
  plain [] = refl
  plain (x ∷ xs) = ap (λ l. x ∷ l) (plain xs)

  abbrev pub less : X → X → Bool
  less x y = is_lt (slice_cmp nat_cmp (key x) (key y))

  pub ranks : IsStrictWeakOrder less
  ranks = ranks_by nat_list_cmp_total key

  put_same : (e : X) (es : List X) → put before e es ≡ put less e es
  put_same e [] = refl
  put_same e (f ∷ fs) = ap (λ b. cond b (f ∷ put before e fs) (e ∷ f ∷ fs)) (stands_by (key f) (key e)) ∙ ap (λ l. cond (less f e) (f ∷ l) (e ∷ f ∷ fs)) (put_same e fs)

  in_turn_same : (xs : List X) → in_turn before xs ≡ in_turn less xs
  in_turn_same [] = refl
  in_turn_same (x ∷ xs) = put_same x (in_turn before xs) ∙ ap (put less x) (in_turn_same xs)

  ascending_in_turn : (xs : List X) → ascending (λ x. Some (key x)) (stands_before ltb) xs ≡ Some (in_turn less xs)
  ascending_in_turn xs = ap (option_map (map (λ e. e.1))) (all_keyed xs) ∙ ap Some (plain (in_turn before xs) ∙ in_turn_same xs)

-- sorted by other keys that agree with these on the list
pub is_ascending_by : {X : Type 0} (P : X → Type 0) (key near : X → List ℕ) →
    ((x y : X) → P x → P y → less key x y ≡ less near x y) → (xs ys : List X) → Each P xs → IsSortedBy (less near) ys →
    IsStableBy (less near) xs ys → ascending (λ x. Some (key x)) (stands_before ltb) xs ≡ Some ys
is_ascending_by P key near agree xs ys q up stable =
    ascending_in_turn key xs ∙ ap Some (in_turn_alike P (less key) (less near) agree xs q ∙ sorted_in_turn (less near) (ranks near) xs ys up stable)
