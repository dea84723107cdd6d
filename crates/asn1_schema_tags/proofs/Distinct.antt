-- Items that are distinct in some property.
use Rattle.std.proofs.Common.{◌≡◌, ◌∙◌, refl, sym, ap, ℕ, zero, suc, ℤ, Bool, true, false, not, List, [], ◌∷◌, map, slice_get, Some}
use Rattle.asn1_model.specs.Value.{same_number}
use Rattle.std.specs.List.{list_all}
use Rattle.asn1_model.specs.Lawful.{are_distinct}
use Rattle.asn1_schema_tags.proofs.ItemIndexes.{same_number_self, both_true}

module _ {A X : Type 0} (f : A → X) (same : X → X → Bool) (self : (x : X) → same x x ≡ true) where
  each_at : (p : X → Bool) (xs : List A) (i : ℕ) (y : A) → list_all p (map f xs) ≡ true → slice_get xs i ≡ Some y → p (f y) ≡ true
  each_at p [] i y a e = cc
  each_at p (x ∷ xs) zero y a e = let s : x ≡ y = cc in ap (λ z. p (f z)) (sym s) ∙ (both_true (p (f x)) (list_all p (map f xs)) a).0
  each_at p (x ∷ xs) (suc i) y a e = each_at p xs i y (both_true (p (f x)) (list_all p (map f xs)) a).1 e

  -- the first is none of those after it
  none_behind : (x y : A) (xs : List A) (i : ℕ) → list_all (λ z. not (same (f x) z)) (map f xs) ≡ true → slice_get xs i ≡ Some y → f x ≡ f y → ⊥
  none_behind x y xs i a e h =
      let n : not (same (f x) (f y)) ≡ true = each_at (λ z. not (same (f x) z)) xs i y a e in
      let t : same (f x) (f y) ≡ true = ap (λ z. same (f x) z) (sym h) ∙ self (f x) in
      let z : false ≡ true = sym (ap not t) ∙ n in cc

  same_place : (xs : List A) (i j : ℕ) (x y : A) → are_distinct same (map f xs) ≡ true → slice_get xs i ≡ Some x → slice_get xs j ≡ Some y → f x ≡ f y → x ≡ y
  same_place [] i j x y d e g h = cc
  same_place (z ∷ zs) zero zero x y d e g h = cc
  same_place (z ∷ zs) zero (suc j) x y d e g h =
      let s : z ≡ x = cc in
      absurd (none_behind z y zs j (both_true (list_all (λ w. not (same (f z) w)) (map f zs)) (are_distinct same (map f zs)) d).0 g (ap f s ∙ h))
  same_place (z ∷ zs) (suc i) zero x y d e g h =
      let s : z ≡ y = cc in
      absurd (none_behind z x zs i (both_true (list_all (λ w. not (same (f z) w)) (map f zs)) (are_distinct same (map f zs)) d).0 e (ap f s ∙ sym h))
  same_place (z ∷ zs) (suc i) (suc j) x y d e g h = same_place zs i j x y (both_true (list_all (λ w. not (same (f z) w)) (map f zs)) (are_distinct same (map f zs)) d).1 e g h

  pub one_by : (xs : List A) → ((x : A) → (i : ℕ) × (slice_get xs i ≡ Some x)) → are_distinct same (map f xs) ≡ true → (x y : A) → f x ≡ f y → x ≡ y
  one_by xs k d x y h = same_place xs (k x).0 (k y).0 x y d (k x).1 (k y).1 h

-- two items with the same number are the same item, if all items are listed and all numbers are distinct
pub one_number_of : {A : Type 0} (f : A → ℤ) (xs : List A) → ((x : A) → (i : ℕ) × (slice_get xs i ≡ Some x)) → are_distinct same_number (map f xs) ≡ true → (x y : A) → f x ≡ f y → x ≡ y
one_number_of f = one_by f same_number same_number_self

-- an element of distinct ones has one index
module _ {X : Type 0} (same : X → X → Bool) (self : (x : X) → same x x ≡ true) where
  each_in : (p : X → Bool) (xs : List X) (i : ℕ) (y : X) → list_all p xs ≡ true → slice_get xs i ≡ Some y → p y ≡ true
  each_in p [] i y a e = cc
  each_in p (x ∷ xs) zero y a e = let s : x ≡ y = cc in ap p (sym s) ∙ (both_true (p x) (list_all p xs) a).0
  each_in p (x ∷ xs) (suc i) y a e = each_in p xs i y (both_true (p x) (list_all p xs) a).1 e

  not_behind : (z x : X) (zs : List X) (i : ℕ) → are_distinct same (z ∷ zs) ≡ true → slice_get zs i ≡ Some x → z ≡ x → ⊥
  not_behind z x zs i d e s =
      let n : not (same z x) ≡ true = each_in (λ w. not (same z w)) zs i x (both_true (list_all (λ w. not (same z w)) zs) (are_distinct same zs) d).0 e in
      let t : same z x ≡ true = ap (same z) (sym s) ∙ self z in
      let c : false ≡ true = sym (ap not t) ∙ n in cc

  pub one_place : (xs : List X) (i j : ℕ) (x : X) → are_distinct same xs ≡ true → slice_get xs i ≡ Some x → slice_get xs j ≡ Some x → i ≡ j
  one_place [] i j x d e g = cc
  one_place (z ∷ zs) zero zero x d e g = refl
  one_place (z ∷ zs) zero (suc j) x d e g = absurd (not_behind z x zs j d g cc)
  one_place (z ∷ zs) (suc i) zero x d e g = absurd (not_behind z x zs i d e cc)
  one_place (z ∷ zs) (suc i) (suc j) x d e g = ap suc (one_place zs i j x (both_true (list_all (λ w. not (same z w)) zs) (are_distinct same zs) d).1 e g)
