-- Equality of SET OF values: each element occurs equally often in both (X.680 28).
use Rattle.std.proofs.Common.{◌≡◌, ◌⊎◌, inl, inr, ℕ, suc, Bool, true, false, cond, List, [], ◌∷◌, length, refl, sym}
use Rattle.std.proofs.Common.{◌∙◌, arith}
use Rattle.std.specs.Prelude.{◌&&◌, nat_eq}
use Rattle.std.specs.Cmp.{IsPartialEquivalence, IsEquivalence, per_alike, equiv}
use Rattle.std.proofs.lemmas.Bool.{and_parts}
use Rattle.std.proofs.lemmas.Bool.Decides.{nat_tests}

-- How often an element occurs in a list, under this equality of elements.
abbrev pub times : {A : Type 0} → (A → A → Bool) → A → List A → ℕ
times e x [] = 0
times e x (y ∷ ys) = cond (e x y) (suc (times e x ys)) (times e x ys)

-- Whether each of these elements (the third list) occurs equally often in two lists.
abbrev pub are_alike : {A : Type 0} → (A → A → Bool) → List A → List A → List A → Bool
are_alike e xs ys [] = true
are_alike e xs ys (w ∷ ws) = nat_eq (times e w xs) (times e w ys) && are_alike e xs ys ws

-- Whether two lists have the same elements, in any order.
abbrev pub same_items : {A : Type 0} → (A → A → Bool) → List A → List A → Bool
same_items e xs ys = nat_eq (length xs) (length ys) && are_alike e xs ys xs && are_alike e xs ys ys

equal_counts : (a b : ℕ) → nat_eq a b ≡ true → a ≡ b
equal_counts a b h = grind (arith, nat_tests)

same_count : (a : ℕ) → nat_eq a a ≡ true
same_count a = grind (arith, nat_tests)

turned_count : (a b : ℕ) → nat_eq a b ≡ nat_eq b a
turned_count a b = grind (arith, nat_tests)

swapped : (a b c : Bool) → (a && b && c) ≡ (a && c && b)
swapped true true true = refl
swapped true true false = refl
swapped true false true = refl
swapped true false false = refl
swapped false b c = refl

turned : {A : Type 0} (e : A → A → Bool) (xs ys ws : List A) → are_alike e xs ys ws ≡ are_alike e ys xs ws
turned e xs ys [] = refl
turned e xs ys (w ∷ ws) = rw (turned_count (times e w xs) (times e w ys), turned e xs ys ws) refl

alike_of : {A : Type 0} (e : A → A → Bool) (xs ys : List A) → ((w : A) → times e w xs ≡ times e w ys) → (ws : List A)
    → are_alike e xs ys ws ≡ true
alike_of e xs ys h [] = refl
alike_of e xs ys h (w ∷ ws) = rw (h w, same_count (times e w ys), alike_of e xs ys h ws) refl

module _ {A : Type 0} {e : A → A → Bool} (p : IsPartialEquivalence e) where
  as_often : (w x : A) → e w x ≡ true → (ys : List A) → times e w ys ≡ times e x ys
  as_often w x q [] = refl
  as_often w x q (y ∷ ys) = rw (per_alike p w x y q, as_often w x q ys) refl

  -- an element does not occur in the list of those that were tested, or it occurs equally often
  tested : (w : A) (xs ys zs : List A) → are_alike e xs ys zs ≡ true → (times e w zs ≡ 0)
      ⊎ (times e w xs ≡ times e w ys)
  tested w xs ys [] h = inl refl
  tested w xs ys (z ∷ zs) h =
      let k = and_parts (nat_eq (times e z xs) (times e z ys)) (are_alike e xs ys zs) h in
      let step : (b : Bool) → e w z ≡ b → (cond b (suc (times e w zs)) (times e w zs) ≡ 0)
      ⊎ (times e w xs ≡ times e w ys) =
      λ b. elim b as (λ b. e w z ≡ b → (cond b (suc (times e w zs)) (times e w zs) ≡ 0)
      ⊎ (times e w xs ≡ times e w ys)) [
        | true ↦ λ q. inr (as_often w z q xs ∙ equal_counts (times e z xs) (times e z ys) k.0 ∙ sym (as_often w z q ys))
        | false ↦ λ q. tested w xs ys zs k.1
      ] in
      step (e w z) refl

  pub all_alike : (xs ys : List A) → same_items e xs ys ≡ true → (w : A) → times e w xs ≡ times e w ys
  all_alike xs ys h w =
      let a = and_parts (nat_eq (length xs) (length ys) && are_alike e xs ys xs) (are_alike e xs ys ys) h in
      let b = and_parts (nat_eq (length xs) (length ys)) (are_alike e xs ys xs) a.0 in
      elim (tested w xs ys xs b.1) [
        | inl u ↦ elim (tested w xs ys ys a.1) [ inl v ↦ u ∙ sym v | inr q ↦ q ]
        | inr q ↦ q
      ]

-- Equal SET OF values have equally many elements.
pub same_length : {A : Type 0} (e : A → A → Bool) (xs ys : List A) → same_items e xs ys ≡ true → length xs ≡ length ys
same_length e xs ys h =
    let a = and_parts (nat_eq (length xs) (length ys) && are_alike e xs ys xs) (are_alike e xs ys ys) h in
    equal_counts (length xs) (length ys) (and_parts (nat_eq (length xs) (length ys)) (are_alike e xs ys xs) a.0).0

pub same_by_counts : {A : Type 0} (e : A → A → Bool) (xs ys : List A) → length xs ≡ length ys
    → ((w : A) → times e w xs ≡ times e w ys) → same_items e xs ys ≡ true
same_by_counts e xs ys l h = rw (l, same_count (length ys), alike_of e xs ys h xs, alike_of e xs ys h ys) refl

-- It is an equality if that of the elements is one; f gives the elements of a SET OF value.
pub bags_partial : {A K : Type 0} {e : A → A → Bool} (f : K → List A) → IsPartialEquivalence e
    → IsPartialEquivalence (λ (x y : K). same_items e (f x) (f y))
bags_partial {e = e} f p = record {
  symm = λ x y. rw (
    turned_count (length (f x)) (length (f y)),
    turned e (f x) (f y) (f x),
    turned e (f x) (f y)
        (f y),
  ) (swapped (nat_eq (length (f y)) (length (f x))) (are_alike e (f y) (f x) (f x))
      (are_alike e (f y) (f x) (f y)));
  trans = λ x y z h k. same_by_counts e (f x) (f z) (same_length e (f x) (f y) h ∙ same_length e (f y) (f z) k)
      (λ w. all_alike p (f x) (f y) h w ∙ all_alike p (f y) (f z) k w);
}

pub bags_equal : {A K : Type 0} {e : A → A → Bool} (f : K → List A) → IsPartialEquivalence e
    → IsEquivalence (λ (x y : K). same_items e (f x) (f y))
bags_equal {e = e} f p = equiv (bags_partial f p) (λ x. same_by_counts e (f x) (f x) refl (λ w. refl))
