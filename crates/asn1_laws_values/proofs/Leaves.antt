-- Equality of the contents of values that are not values themselves.
use Rattle.std.specs.Prelude.{ℤ, pos, negsuc}
use Rattle.std.proofs.Common.{◌≡◌, ℕ, ◌==◌, Bool, true, false, List, [], ◌∷◌, refl, ap}
use Rattle.std.proofs.lemmas.Bool.{eqb-true, eq-eqb, and_parts}
use Rattle.asn1_model.specs.Value.{same_truth, same_number}
use lib.Pointwise.{pointwise}

pub truths_equal : (a b : Bool) → same_truth a b ≡ true → a ≡ b
truths_equal true true e = refl
truths_equal true false e = cc
truths_equal false true e = cc
truths_equal false false e = refl

pub truth_same : (a : Bool) → same_truth a a ≡ true
truth_same true = refl
truth_same false = refl

pub numbers_equal : (a b : ℤ) → same_number a b ≡ true → a ≡ b
numbers_equal (pos a) (pos b) e = ap pos (eqb-true a b e)
numbers_equal (pos a) (negsuc b) e = cc
numbers_equal (negsuc a) (pos b) e = cc
numbers_equal (negsuc a) (negsuc b) e = ap negsuc (eqb-true a b e)

pub number_same : (a : ℤ) → same_number a a ≡ true
number_same (pos a) = eq-eqb a a refl
number_same (negsuc a) = eq-eqb a a refl

pub lists_equal : {X : Type 0} (test : X → X → Bool) → ((x y : X) → test x y ≡ true → x ≡ y) → (xs ys : List X) → pointwise test xs ys ≡ true → xs ≡ ys
lists_equal test h [] [] e = refl
lists_equal test h [] (y ∷ ys) e = cc
lists_equal test h (x ∷ xs) [] e = cc
lists_equal test h (x ∷ xs) (y ∷ ys) e = let p = and_parts _ _ e in let f = h x y p.0 in let g = lists_equal test h xs ys p.1 in cc

pub list_same : {X : Type 0} (test : X → X → Bool) → ((x : X) → test x x ≡ true) → (xs : List X) → pointwise test xs xs ≡ true
list_same test h [] = refl
list_same test h (x ∷ xs) = let e = h x in rw e (list_same test h xs)

pub bits_equal : (xs ys : List Bool) → pointwise same_truth xs ys ≡ true → xs ≡ ys
bits_equal xs ys e = lists_equal same_truth truths_equal xs ys e

pub naturals_equal : (xs ys : List ℕ) → pointwise ◌==◌ xs ys ≡ true → xs ≡ ys
naturals_equal xs ys e = lists_equal ◌==◌ (λ x y f. eqb-true x y f) xs ys e

pub bits_same : (xs : List Bool) → pointwise same_truth xs xs ≡ true
bits_same xs = list_same same_truth truth_same xs

pub naturals_same : (xs : List ℕ) → pointwise ◌==◌ xs xs ≡ true
naturals_same xs = list_same ◌==◌ (λ x. eq-eqb x x refl) xs
