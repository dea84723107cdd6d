-- SET OF values by their sorted elements: they are equal exactly if these are equal one by one.
use Rattle.std.proofs.Common.{◌≡◌, ℕ, ◌+◌, ◌<◌, suc, Bool, true, false, cond, List, [], ◌∷◌, length, map, refl, sym, ap, ◌∙◌}
use Rattle.std.proofs.Common.{arith}
use Rattle.std.specs.Prelude.{get_or}
use Rattle.std.specs.Cmp.{IsEquivalence, IsTotalOrder, partial_equiv_from_equiv, both_ways}
use Rattle.std.specs.Cmp.Lexicographic.{pointwise}
use Rattle.std.specs.declared.cmp.Ordering.{Ordering}
use Rattle.std.specs.declared.cmp.Ordering.TheVariants.{Less, Equal, Greater}
use Rattle.std.specs.List.{sum_by}
use Rattle.std.specs.List.Sorted.{IsPermutation, IsSorted}
use Rattle.std.specs.Ordering.{is_eq, is_lt, ordering_reverse}
use Rattle.std.proofs.lemmas.Bool.{and_parts}
use Rattle.std.proofs.lemmas.List.Sorted.{sorted_far, ranks_by, sum_by-IsPermutation, length_permutation}
use Rattle.std.proofs.lemmas.List.{length-map}
use Rattle.std.proofs.lemmas.List.Sums.{sum_by-cons}
use Rattle.asn1_schema_wrapped.specs.Equality.{times, are_alike, same_items, same_length, all_alike, same_by_counts}
use Rattle.asn1_schema_wrapped.specs.Meaning.{alike_front}

added : (b : Bool) (m n : ℕ) → m ≡ n → cond b (suc m) m ≡ cond b 1 0 + n
added true m n h = omega (arith, h)
added false m n h = omega (arith, h)

-- how often an element occurs, as a sum
summed : {A : Type 0} (e : A → A → Bool) (w : A) (xs : List A) → times e w xs ≡ sum_by (λ x. cond (e w x) 1 0) xs
summed e w [] = refl
summed e w (x ∷ xs) = added (e w x) (times e w xs) (sum_by (λ y. cond (e w y) 1 0) xs) (summed e w xs)
    ∙ sym (sum_by-cons (λ y. cond (e w y) 1 0) x xs)

as_often_there : {A : Type 0} (e : A → A → Bool) (w : A) (xs us : List A) → IsPermutation xs us
    → times e w us ≡ times e w xs
as_often_there e w xs us p =
    summed e w us ∙ sum_by-IsPermutation (λ x. cond (e w x) 1 0) xs us p ∙ sym (summed e w xs)

-- Elements that represent others give the same SET OF values as these.
module _ {A B : Type 0} (e : A → A → Bool) (f : B → A) where
  as_often_as : (w : B) (xs : List B) → times (λ x y. e (f x) (f y)) w xs ≡ times e (f w) (map f xs)
  as_often_as w [] = refl
  as_often_as w (x ∷ xs) = ap (λ n. cond (e (f w) (f x)) (suc n) n) (as_often_as w xs)

  alike_as : (xs ys ws : List B) → are_alike (λ x y. e (f x) (f y)) xs ys ws
      ≡ are_alike e (map f xs) (map f ys) (map f ws)
  alike_as xs ys [] = refl
  alike_as xs ys (w ∷ ws) = rw (as_often_as w xs, as_often_as w ys, alike_as xs ys ws) refl

  pub mapped : (xs ys : List B) → same_items (λ x y. e (f x) (f y)) xs ys ≡ same_items e (map f xs) (map f ys)
  mapped xs ys = rw (length-map xs f, length-map ys f, alike_as xs ys xs, alike_as xs ys ys) refl

module _ {A : Type 0} {e : A → A → Bool} (q : IsEquivalence e) where
  -- The order of the elements changes no SET OF value.
  pub reordered : (xs ys us vs : List A) → IsPermutation xs us → IsPermutation ys vs
      → same_items e us vs ≡ same_items e xs ys
  reordered xs ys us vs a b =
      let p = partial_equiv_from_equiv q in
      let l : length us ≡ length xs = length_permutation xs us a in
      let m : length vs ≡ length ys = length_permutation ys vs b in
      both_ways (same_items e us vs) (same_items e xs ys)
      (λ s. same_by_counts e xs ys (sym l ∙ same_length e us vs s ∙ m)
      (λ w. sym (as_often_there e w xs us a) ∙ all_alike p us vs s w ∙ as_often_there e w ys vs b))
      (λ s. same_by_counts e us vs (l ∙ same_length e xs ys s ∙ sym m)
      (λ w. as_often_there e w xs us a ∙ all_alike p xs ys s w ∙ sym (as_often_there e w ys vs b)))

  module _ {R : A → A → Ordering} (o : IsTotalOrder R) (m : (x y : A) → e x y ≡ is_eq (R x y)) where
    equal_of : (r : Ordering) → is_eq r ≡ true → r ≡ Equal
    equal_of Less h = absurd (let k : false ≡ true = h in cc)
    equal_of Equal h = refl
    equal_of Greater h = absurd (let k : false ≡ true = h in cc)

    -- neither is less than the other
    tied : (r s : Ordering) → r ≡ ordering_reverse s → is_lt r ≡ false → is_lt s ≡ false → is_eq r ≡ true
    tied Less s h a b = absurd (let k : true ≡ false = a in cc)
    tied Equal s h a b = refl
    tied Greater Less h a b = absurd (let k : true ≡ false = b in cc)
    tied Greater Equal h a b = absurd (let k : Greater ≡ Equal = h in cc)
    tied Greater Greater h a b = absurd (let k : Greater ≡ Less = h in cc)

    -- if no element of a list is less than a given one, nor is any that occurs in the list
    not_below : (u v : A) (ws : List A) → ((i : ℕ) (d : A) → i < length ws → is_lt (R (get_or ws i d) v) ≡ false)
        → (n : ℕ) → times e u ws ≡ suc n → is_lt (R u v) ≡ false
    not_below u v [] h n t = absurd (omega (arith, t))
    not_below u v (w ∷ ws) h n t =
        let step : (b : Bool) → e u w ≡ b → cond b (suc (times e u ws)) (times e u ws) ≡ suc n
        → is_lt (R u v) ≡ false =
        λ b. elim b as (λ b. e u w ≡ b → cond b (suc (times e u ws)) (times e u ws) ≡ suc n
        → is_lt (R u v) ≡ false) [
          | true ↦ λ k j. ap is_lt (o.congr u w v (equal_of (R u w) (sym (m u w) ∙ k))) ∙ h 0 w (omega arith)
          | false ↦ λ k j. not_below u v ws (λ i d a. h (suc i) d (omega (arith, a))) n j
        ] in
        step (e u w) refl t

    first_not_above : (v : A) (vs : List A) → IsSorted R (v ∷ vs) → (i : ℕ) (d : A) → i < length (v ∷ vs)
        → is_lt (R (get_or (v ∷ vs) i d) v) ≡ false
    first_not_above v vs up i d a = sorted_far (λ x y. is_lt (R x y)) (ranks_by o (λ x. x)) (v ∷ vs) up 0 i d
        (omega arith) a

    behind_first : (v : A) (vs : List A) → IsSorted R (v ∷ vs) → IsSorted R vs
    behind_first v vs up i d a b =
        let k : suc i + 1 ≡ suc (i + 1) = omega (arith) in
        rw (k) at (up (suc i) d (omega (arith, a)) (omega (arith, b)))

    firsts_alike : (u v : A) (us vs : List A) → IsSorted R (u ∷ us) → IsSorted R (v ∷ vs)
        → same_items e (u ∷ us) (v ∷ vs) ≡ true → e u v ≡ true
    firsts_alike u v us vs a b s =
        let t = all_alike (partial_equiv_from_equiv q) (u ∷ us) (v ∷ vs) s in
        let x = rw (q.refl u) at (t u) in
        let y = rw (q.refl v) at (t v) in
        m u v ∙ tied (R u v) (R v u) (o.antisymm u v)
        (not_below u v (v ∷ vs) (first_not_above v vs b) (times e u us) (sym x))
        (not_below v u (u ∷ us) (first_not_above u us a) (times e v vs) y)

    -- Sorted lists have the same elements exactly if these are equal one by one.
    pub sorted_alike : (us vs : List A) → IsSorted R us → IsSorted R vs → same_items e us vs ≡ pointwise e us vs
    sorted_alike [] [] a b = refl
    sorted_alike [] (v ∷ vs) a b = both_ways (same_items e [] (v ∷ vs)) false
        (λ s. absurd (let l = same_length e [] (v ∷ vs) s in omega (arith, l)))
        (λ s. absurd (let k : false ≡ true = s in cc))
    sorted_alike (u ∷ us) [] a b = both_ways (same_items e (u ∷ us) []) false
        (λ s. absurd (let l = same_length e (u ∷ us) [] s in omega (arith, l)))
        (λ s. absurd (let k : false ≡ true = s in cc))
    sorted_alike (u ∷ us) (v ∷ vs) a b =
        let rest = sorted_alike us vs (behind_first u us a) (behind_first v vs b) in
        let front = alike_front (partial_equiv_from_equiv q) u v in
        both_ways (same_items e (u ∷ us) (v ∷ vs)) (pointwise e (u ∷ us) (v ∷ vs))
        (λ s. let k = firsts_alike u v us vs a b s in rw (k) (sym rest ∙ sym (front k us vs) ∙ s))
        (λ s. let k = and_parts (e u v) (pointwise e us vs) s in front k.0 us vs ∙ rest ∙ k.1)

-- Two SET OF values are equal exactly if their sorted elements are equal one by one, where the elements are sorted by
-- what represents them.
pub same_by_order : {A B : Type 0} {e : A → A → Bool} (q : IsEquivalence e) {R : A → A → Ordering} (o : IsTotalOrder R)
    (m : (x y : A) → e x y ≡ is_eq (R x y)) (f : B → A) {xs ys : List A} {ps qs us vs : List B} {r : Bool}
    → map f ps ≡ xs → map f qs ≡ ys → IsPermutation ps us → IsPermutation qs vs
    → IsSorted (λ a b. R (f a) (f b)) us → IsSorted (λ a b. R (f a) (f b)) vs
    → r ≡ pointwise (λ a b. e (f a) (f b)) us vs → r ≡ same_items e xs ys
same_by_order {A = A} {B = B} {e = e} q {R = R} o m f {xs = xs} {ys = ys} {ps = ps} {qs = qs} {us = us} {vs = vs} i j a b s t h =
    let q' : IsEquivalence (λ (x y : B). e (f x) (f y)) = record {
      refl = λ x. q.refl (f x);
      symm = λ x y. q.symm (f x) (f y);
      congr = λ x y z. q.congr (f x) (f y) (f z);
    } in
    let o' : IsTotalOrder (λ (x y : B). R (f x) (f y)) = record {
      antisymm = λ x y. o.antisymm (f x) (f y);
      trans = λ x y z. o.trans (f x) (f y) (f z);
      congr = λ x y z. o.congr (f x) (f y) (f z);
    } in
    h ∙ sym (sorted_alike q' o' (λ x y. m (f x) (f y)) us vs s t) ∙ reordered q' ps qs us vs a b ∙ mapped e f ps qs
    ∙ ap (λ zs. same_items e zs (map f qs)) i ∙ ap (λ zs. same_items e xs zs) j
