-- Elements inserted by their keys are those that were given, and ascend.
use Rattle.std.proofs.Common.{◌≡◌, ◌≢◌, ℕ, ltb, Bool, true, false, cond, List, [], ◌∷◌, ◌++◌, map, Option, Some, None, option_map, refl, ap, sym, ◌∙◌, subst}
use Rattle.std.specs.Prelude.{All, IsPermutation}
use Rattle.std.proofs.lemmas.List.Elements.{All-cons, All-nil, All-head, All-tail}
use Rattle.std.proofs.lemmas.List.Sorted.{IsPermutation-refl, IsPermutation-cons, IsPermutation-trans, IsPermutation-to_front, IsPermutation-append_left, IsPermutation-map}
use Rattle.asn1_model.specs.Form.{Form, put_in_place, with_keys, ascending, given, written, stands_before}
use Rattle.asn1_model.specs.Per.{bit_less, BitForm, complete}
use Rattle.asn1_model.specs.Per
use Rattle.asn1_model.specs.Oer.{OctetForm}
use Rattle.asn1_model.specs.Oer
use Rattle.asn1_model.proofs.Forms.{chain_parts, map_parts}
use Rattle.asn1_laws_across.proofs.Orders.{lists_ordered, numbers_ordered, bits_ordered}
use Rattle.asn1_laws_across.specs.OrderLaws.{IsTotalOrder, Ascends, PutsInOrder}

never : {P : Type 0} → true ≡ false → P
never e = cc

module _ (K : Type 0) (before : K → K → Bool) (o : IsTotalOrder before) where
  -- what is less than another is not greater than it
  one_way : (k l : K) → before k l ≡ true → before l k ≡ false
  one_way k l e = go (before l k) refl
    where
      go : (b : Bool) → before l k ≡ b → before l k ≡ false
      go true h = never (sym (o.1 k l k e h) ∙ o.0 k)
      go false h = h

  module _ (X : Type 0) (key : X → Option K) where
    -- each with its own key
    abbrev pub Keyed : List (K × X) → Type 0
    Keyed [] = Unit {0}
    Keyed (e ∷ es) = (key (e.1) ≡ Some (e.0)) × Keyed es

    -- the first key is not greater than that of the next
    abbrev pub InFront : K → List (K × X) → Type 0
    InFront k [] = Unit {0}
    InFront k (f ∷ fs) = before (f.0) k ≡ false

    abbrev pub Rises : List (K × X) → Type 0
    Rises [] = Unit {0}
    Rises (e ∷ es) = InFront (e.0) es × Rises es

    elements : List (K × X) → List X
    elements es = map (λ e. e.1) es

    -- ---- one more
    put_keyed : (e : K × X) (es : List (K × X)) → key (e.1) ≡ Some (e.0) → Keyed es → Keyed (put_in_place before e es)
    put_keyed e [] h i = (h, tt)
    put_keyed e (f ∷ fs) h i = go (before (f.0) (e.0)) (put_keyed e fs h i.1)
      where
        go : (b : Bool) → Keyed (put_in_place before e fs) → Keyed (cond b (f ∷ put_in_place before e fs) (e ∷ f ∷ fs))
        go true j = (i.0, j)
        go false j = (h, i)

    put_front : (k : K) (e : K × X) (es : List (K × X)) → before (e.0) k ≡ false → InFront k es → InFront k (put_in_place before e es)
    put_front k e [] h i = h
    put_front k e (f ∷ fs) h i = go (before (f.0) (e.0))
      where
        go : (b : Bool) → InFront k (cond b (f ∷ put_in_place before e fs) (e ∷ f ∷ fs))
        go true = i
        go false = h

    put_rises : (e : K × X) (es : List (K × X)) → Rises es → Rises (put_in_place before e es)
    put_rises e [] i = (tt, tt)
    put_rises e (f ∷ fs) i = go (before (f.0) (e.0)) refl (put_rises e fs i.1)
      where
        go : (b : Bool) → before (f.0) (e.0) ≡ b → Rises (put_in_place before e fs) → Rises (cond b (f ∷ put_in_place before e fs) (e ∷ f ∷ fs))
        go true h j = (put_front (f.0) e fs (one_way (f.0) (e.0) h) i.0, j)
        go false h j = (h, i)

    two_first : (e f : K × X) (fs : List (K × X)) → IsPermutation (e ∷ f ∷ fs) (f ∷ e ∷ fs)
    two_first e f fs = IsPermutation-append_left fs (e ∷ f ∷ []) (f ∷ e ∷ []) (IsPermutation-to_front (e ∷ []) f)

    put_permutes : (e : K × X) (es : List (K × X)) → IsPermutation (e ∷ es) (put_in_place before e es)
    put_permutes e [] = IsPermutation-refl (e ∷ [])
    put_permutes e (f ∷ fs) = go (before (f.0) (e.0)) (put_permutes e fs)
      where
        go : (b : Bool) → IsPermutation (e ∷ fs) (put_in_place before e fs) → IsPermutation (e ∷ f ∷ fs) (cond b (f ∷ put_in_place before e fs) (e ∷ f ∷ fs))
        go true i = IsPermutation-trans (e ∷ f ∷ fs) (f ∷ e ∷ fs) (f ∷ put_in_place before e fs) (two_first e f fs) (IsPermutation-cons f (e ∷ fs) (put_in_place before e fs) i)
        go false i = IsPermutation-refl (e ∷ f ∷ fs)

    -- ---- all of them
    sorted : (xs : List X) (es : List (K × X)) → with_keys key before xs ≡ Some es → IsPermutation xs (elements es) × Keyed es × Rises es
    unfolding elements
    sorted [] [] h = (IsPermutation-refl [], tt, tt)
    sorted [] (e ∷ es) h = cc
    sorted (x ∷ xs) es h =
        let q = chain_parts (key x) (λ k. option_map (λ es. put_in_place before (k, x) es) (with_keys key before xs)) es h in
        let r = map_parts (with_keys key before xs) (λ es. put_in_place before (q.0, x) es) es q.2 in
        let i = sorted xs r.0 r.1 in
        let put = put_in_place before (q.0, x) r.0 in
        let p = IsPermutation-trans (x ∷ xs) (x ∷ elements r.0) (elements put) (IsPermutation-cons x xs (elements r.0) i.0)
        (IsPermutation-map (λ (e : K × X). e.1) ((q.0, x) ∷ r.0) put (put_permutes (q.0, x) r.0)) in
        subst (λ l. IsPermutation (x ∷ xs) (elements l) × Keyed l × Rises l) r.2 (p, put_keyed (q.0, x) r.0 q.1 i.1, put_rises (q.0, x) r.0 i.2)

    all_keyed : (es : List (K × X)) → Keyed es → All (λ y. key y ≢ None) (elements es)
    unfolding elements
    all_keyed [] h = All-nil (λ y. key y ≢ None)
    all_keyed (e ∷ es) h = All-cons (λ y. key y ≢ None) (e.1) (elements es) (λ n. there (sym h.0 ∙ n)) (all_keyed es h.1)
      where
        there : {k : K} → Some k ≡ None → ⊥
        there n = cc

    same_key : {k l : K} → Some k ≡ Some l → k ≡ l
    same_key e = cc

    ascends : (es : List (K × X)) → Keyed es → Rises es → Ascends key before (elements es)
    unfolding elements
    ascends [] h i [] behind x y k l e p q = cc
    ascends [] h i (z ∷ front) behind x y k l e p q = cc
    ascends (e ∷ []) h i [] behind x y k l a p q = cc
    ascends (e ∷ f ∷ fs) h i [] behind x y k l a p q =
        let first : x ≡ e.1 = cc in
        let second : y ≡ f.1 = cc in
        let here : k ≡ e.0 = same_key (sym p ∙ ap key first ∙ h.0) in
        let next : l ≡ f.0 = same_key (sym q ∙ ap key second ∙ h.1.0) in
        rw (here, next) (i.0)
    ascends (e ∷ es) h i (z ∷ front) behind x y k l a p q =
        let rest : front ++ x ∷ y ∷ behind ≡ elements es = cc in
        ascends es h.1 i.1 front behind x y k l rest p q

    there_are : (xs : List X) → All (λ x. key x ≢ None) xs → (es : List (K × X)) × (with_keys key before xs ≡ Some es)
    there_are [] h = ([], refl)
    there_are (x ∷ xs) h =
        let i = there_are xs (All-tail (λ x. key x ≢ None) x xs h) in
        go (key x) refl i.0 i.1
      where
        go : (m : Option K) → key x ≡ m → (es : List (K × X)) → with_keys key before xs ≡ Some es → (fs : List (K × X)) × (with_keys key before (x ∷ xs) ≡ Some fs)
        go None e es f = absurd (All-head (λ x. key x ≢ None) x xs h e)
        go (Some k) e es f = (put_in_place before (k, x) es, rw (e, f) refl)

    in_order : (xs ys : List X) → ascending key before xs ≡ Some ys → IsPermutation xs ys × All (λ y. key y ≢ None) ys × Ascends key before ys
    unfolding elements
    in_order xs ys e =
        let q = map_parts (with_keys key before xs) (λ es. elements es) ys e in
        let s = sorted xs q.0 q.1 in
        subst (λ l. IsPermutation xs l × All (λ y. key y ≢ None) l × Ascends key before l) q.2 (s.0, all_keyed q.0 s.1, ascends q.0 s.1 s.2)

    pub puts_in_order : PutsInOrder key before
    unfolding elements
    puts_in_order xs = (λ ys e. in_order xs ys e, λ h. let t = there_are xs h in (elements t.0, ap (λ m. option_map (λ es. elements es) m) t.1))

-- ---- elements of SET OF
in_that_order : {F A X : Type 0} {D : F → Type 0} (m : Option X) (f : X → Form F D A) (p : ℕ) (w : List A) → written (given m f) p ≡ Some w → (x : X) × (m ≡ Some x) × (written (f x) p ≡ Some w)
unfolding written
in_that_order None f p w e = cc
in_that_order (Some x) f p w e = (x, refl, e)

pub octets_in_order : (xs : List OctetForm) (f : List OctetForm → OctetForm) (p : ℕ) (w : List ℕ) →
    written (Oer.in_any_order xs f) p ≡ Some w → (ys : List OctetForm) × IsPermutation xs ys × Ascends (λ (x : OctetForm). written x 0) (stands_before ltb) ys × (written (f ys) p ≡ Some w)
unfolding written Oer.in_any_order
octets_in_order xs f p w e =
    let q = in_that_order (ascending (λ (x : OctetForm). written x 0) (stands_before ltb) xs) f p w e in
    let o = (puts_in_order (List ℕ) (stands_before ltb) (lists_ordered ℕ ltb numbers_ordered) OctetForm (λ x. written x 0) xs).0 q.0 q.1 in
    (q.0, o.0, o.2, q.2)

pub bits_in_order : (xs : List BitForm) (f : List BitForm → BitForm) (p : ℕ) (w : List Bool) → written (Per.in_any_order xs f) p
    ≡ Some w → (ys : List BitForm) × IsPermutation xs ys × Ascends (λ (x : BitForm). written (complete x) 0) (stands_before bit_less) ys × (written (f ys) p ≡ Some w)
unfolding written Per.in_any_order
bits_in_order xs f p w e =
    let q = in_that_order (ascending (λ (x : BitForm). written (complete x) 0) (stands_before bit_less) xs) f p w e in
    let o = (puts_in_order (List Bool) (stands_before bit_less) (lists_ordered Bool bit_less bits_ordered) BitForm (λ x. written (complete x) 0) xs).0 q.0 q.1 in
    (q.0, o.0, o.2, q.2)
