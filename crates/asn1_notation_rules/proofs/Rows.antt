-- Laws of the order of tags.
use Rattle.std.proofs.Common.{◌≡◌, ℕ, zero, suc, ◌+◌, ◌<◌, ◌≤◌, Bool, true, false, not, cond, ◌&&◌, ◌||◌, ◌==◌, ltb, List, [], ◌∷◌, ◌++◌, length, get_or, map, refl, ap, sym, subst, ◌∙◌, arith}
use Rattle.std.specs.Prelude.{All, Some, insert, slice_get}
use Rattle.std.proofs.lemmas.Option.{get_or_from_slice_get}
use Rattle.std.specs.List.{prefix_len, range_with_len}
use Rattle.std.specs.List.Sorted.{IsPermutation}
use Rattle.std.proofs.lemmas.Bool.{and_parts, and_from}
use Rattle.std.proofs.lemmas.Bool.Decides.{nat_tests}
use Rattle.std.proofs.lemmas.List.Elements.{All-cons, All-head, All-nil, All-tail}
use Rattle.std.proofs.lemmas.List.{get_or_default}
use Rattle.std.proofs.lemmas.List.Sorted.{All-permutation, IsPermutation-cons, IsPermutation-insert, IsPermutation-refl, IsPermutation-to_front, IsPermutation-trans}
use Rattle.asn1_model.specs.Lawful.{are_ascending, tag_less, tag_same}
use Rattle.asn1_model.specs.Schema.{Tag as ModelTag}
use Rattle.asn1_schema_tags.specs.Tags.{tag_of}
use Rattle.asn1_schema_tags.specs.declared.tags.Tag.{Tag}
use Rattle.asn1_notation_rules.specs.Ordering.{AreInOrder, comes_before, key_at}

-- ---- one of two tags comes first, or they are the same

by_classes : (a b : ℕ) (n m : ℕ) → (ltb a b || ((a == b) && ltb n m)) ≡ false → ((a == b) && (n == m)) ≡ false → (ltb b a || ((b == a) && ltb m n)) ≡ true
by_classes a b n m p q = grind (arith, nat_tests)

pub other_way : (t u : ModelTag) → tag_less t u ≡ false → tag_same t u ≡ false → tag_less u t ≡ true
other_way t u p q = by_classes t.class u.class t.number u.number p q

-- ---- a tag is inserted before the first that is not below it

abbrev pub put : ModelTag → List ModelTag → List ModelTag
put t [] = t ∷ []
put t (u ∷ us) = cond (tag_less u t) (u ∷ put t us) (t ∷ u ∷ us)

-- The first tag that does not come before one is another.
abbrev pub is_new : ModelTag → List ModelTag → Bool
is_new t [] = true
is_new t (u ∷ us) = cond (tag_less u t) (is_new t us) (not (tag_same u t))

ascend_rest : (u : ModelTag) (us : List ModelTag) → are_ascending tag_less (u ∷ us) ≡ true → are_ascending tag_less us ≡ true
ascend_rest u [] h = refl
ascend_rest u (v ∷ vs) h = (and_parts (tag_less u v) (are_ascending tag_less (v ∷ vs)) h).1

follow : (t u : ModelTag) (us : List ModelTag) → are_ascending tag_less (u ∷ us) ≡ true → tag_less u t ≡ true → are_ascending tag_less (put t us) ≡ true → are_ascending tag_less (u ∷ put t us) ≡ true
follow t u [] a e r = and_from (tag_less u t) true e refl
follow t u (v ∷ vs) a e r = go (tag_less v t) r
  where
    go : (b : Bool) → are_ascending tag_less (cond b (v ∷ put t vs) (t ∷ v ∷ vs)) ≡ true → are_ascending tag_less (u ∷ cond b (v ∷ put t vs) (t ∷ v ∷ vs)) ≡ true
    go true r = and_from (tag_less u v) (are_ascending tag_less (v ∷ put t vs)) (and_parts (tag_less u v) (are_ascending tag_less (v ∷ vs)) a).0 r
    go false r = and_from (tag_less u t) (are_ascending tag_less (t ∷ v ∷ vs)) e r

unlike : (b : Bool) → not b ≡ true → b ≡ false
unlike true h = absurd (cc)
unlike false h = refl

pub ascend_put : (t : ModelTag) (us : List ModelTag) → are_ascending tag_less us ≡ true → is_new t us ≡ true → are_ascending tag_less (put t us) ≡ true
ascend_put t [] h n = refl
ascend_put t (u ∷ us) h n = at (tag_less u t) refl (ascend_put t us (ascend_rest u us h)) n
  where
    at : (b : Bool) → tag_less u t ≡ b → (is_new t us ≡ true → are_ascending tag_less (put t us) ≡ true) → cond b (is_new t us) (not (tag_same u t)) ≡ true → are_ascending tag_less (cond b (u ∷ put t us) (t ∷ u ∷ us)) ≡ true
    at true e rest n = follow t u us h e (rest n)
    at false e rest n = and_from (tag_less t u) (are_ascending tag_less (u ∷ us)) (other_way u t e (unlike (tag_same u t) n)) h

-- ---- the same by the index at which it is inserted

one_more : (n : ℕ) → 1 + n ≡ suc n
one_more n = omega arith

more_below : (n m : ℕ) → n < m → 1 + n < suc m
more_below n m h = omega arith

above_zero : (n : ℕ) → 0 < suc n
above_zero n = omega arith

not_same : (b : Bool) → b ≡ false → not b ≡ true
not_same true e = absurd (cc)
not_same false e = refl

module _ {X : Type 0} (f : X → ModelTag) where
  pub map-insert : (xs : List X) (x : X) → map f (insert xs (prefix_len (λ y. tag_less (f y) (f x)) xs) x) ≡ put (f x) (map f xs)
  map-insert [] x = refl
  map-insert (y ∷ xs) x = at (tag_less (f y) (f x)) (map-insert xs x)
    where
      at : (b : Bool) → map f (insert xs (prefix_len (λ y. tag_less (f y) (f x)) xs) x) ≡ put (f x) (map f xs) → map f (insert (y ∷ xs) (cond b (1 + prefix_len (λ y. tag_less (f y) (f x)) xs) 0) x) ≡ cond b (f y ∷ put (f x) (map f xs)) (f x ∷ f y ∷ map f xs)
      at true rest =
          ap (λ k. map f (insert (y ∷ xs) k x)) (one_more (prefix_len (λ y. tag_less (f y) (f x)) xs))
          ∙ ap (λ l. f y ∷ l) rest
      at false rest = refl

  pub new-at : (xs : List X) (x : X) → ((d : X) → prefix_len (λ y. tag_less (f y) (f x)) xs < length xs → tag_same (f (get_or xs (prefix_len (λ y. tag_less (f y) (f x)) xs) d)) (f x) ≡ false) → is_new (f x) (map f xs) ≡ true
  new-at [] x h = refl
  new-at (y ∷ xs) x h = at (tag_less (f y) (f x)) (new-at xs x) h
    where
      at : (b : Bool) → (((d : X) → prefix_len (λ y. tag_less (f y) (f x)) xs < length xs → tag_same (f (get_or xs (prefix_len (λ y. tag_less (f y) (f x)) xs) d)) (f x) ≡ false) → is_new (f x) (map f xs) ≡ true) → ((d : X) → cond b (1 + prefix_len (λ y. tag_less (f y) (f x)) xs) 0 < length (y ∷ xs) → tag_same (f (get_or (y ∷ xs) (cond b (1 + prefix_len (λ y. tag_less (f y) (f x)) xs) 0) d)) (f x) ≡ false) → cond b (is_new (f x) (map f xs)) (not (tag_same (f y) (f x))) ≡ true
      at true rest h = rest (λ d l. subst (λ k. tag_same (f (get_or (y ∷ xs) k d)) (f x) ≡ false) (one_more (prefix_len (λ y. tag_less (f y) (f x)) xs)) (h d (more_below (prefix_len (λ y. tag_less (f y) (f x)) xs) (length xs) l)))
      at false rest h = not_same (tag_same (f y) (f x)) (h y (above_zero (length xs)))

-- ---- all indices up to one

range_more : (a n : ℕ) → range_with_len a (n + 1) ≡ range_with_len a n ++ (a + n) ∷ []
range_more a zero = subst (λ k. range_with_len a k ≡ (a + 0) ∷ []) (sym (one_more zero)) (ap (λ k. k ∷ []) (plus_zero a))
  where
    one_more : (n : ℕ) → n + 1 ≡ suc n
    one_more n = omega arith

    plus_zero : (a : ℕ) → a ≡ a + 0
    plus_zero a = omega arith
range_more a (suc n) =
    ap (range_with_len a) (one_more (suc n))
    ∙ ap (λ l. a ∷ l) (sym (ap (range_with_len (a + 1)) (one_more n)) ∙ range_more (a + 1) n ∙ ap (λ k. range_with_len (a + 1) n ++ k ∷ []) (shift a n))
  where
    one_more : (n : ℕ) → n + 1 ≡ suc n
    one_more n = omega arith

    shift : (a n : ℕ) → (a + 1) + n ≡ a + suc n
    shift a n = omega arith

range_below : (a n : ℕ) → All (λ i. i < a + n) (range_with_len a n)
range_below a zero = All-nil (λ i. i < a + 0)
range_below a (suc n) = All-cons (λ i. i < a + suc n) a (range_with_len (a + 1) n) (within a n) (subst (λ k. All (λ i. i < k) (range_with_len (a + 1) n)) (shift a n) (range_below (a + 1) n))
  where
    within : (a n : ℕ) → a < a + suc n
    within a n = omega arith

    shift : (a n : ℕ) → (a + 1) + n ≡ a + suc n
    shift a n = omega arith

pub order_begins : (tags : List Tag) → AreInOrder tags 0 []
order_begins tags = record { all = IsPermutation-refl []; ascending = λ d. refl }

-- Each index in an order is below the count.
below_of : (k : ℕ) (order : List ℕ) → IsPermutation (range_with_len 0 k) order → All (λ i. i < k) order
below_of k order h =
    All-permutation (λ i. i < k) (range_with_len 0 k) order h (subst (λ n. All (λ i. i < n) (range_with_len 0 k)) (zero_plus k) (range_below 0 k))
  where
    zero_plus : (k : ℕ) → 0 + k ≡ k
    zero_plus k = omega arith

pub order_below : (tags : List Tag) (k : ℕ) (order : List ℕ) → AreInOrder tags k order → All (λ i. i < k) order
order_below tags k order s = below_of k order s.all

pub order_within : (tags : List Tag) (k : ℕ) (order : List ℕ) → AreInOrder tags k order → k ≤ length tags → All (λ i. i < length tags) order
order_within tags k order s h = λ n d l. lift (get_or order n d) (order_below tags k order s n d l) h
  where
    lift : (i : ℕ) → i < k → k ≤ length tags → i < length tags
    lift i l h = omega arith

map_same : {Y : Type 0} (f g : ℕ → Y) (n : ℕ) (xs : List ℕ) → ((i : ℕ) → i < n → f i ≡ g i) → All (λ i. i < n) xs → map f xs ≡ map g xs
map_same f g n [] e h = refl
map_same f g n (x ∷ xs) e h =
    ap (λ y. y ∷ map f xs) (e x (All-head (λ i. i < n) x xs h))
    ∙ ap (λ ys. g x ∷ ys) (map_same f g n xs e (All-tail (λ i. i < n) x xs h))

pub order_more : (tags : List Tag) (k place : ℕ) (order more : List ℕ) (tag : Tag) → AreInOrder tags k order → k < length tags → tag ≡ get_or tags k tag → place ≡ prefix_len (comes_before tags tag) order → more ≡ insert order place k → ((d : ℕ) → place < length order → tag_same (key_at tags tag (get_or order place d)) (tag_of tag) ≡ false) → AreInOrder tags (k + 1) more
order_more tags k place order more tag s l is_tag is_place is_more differs = record {
  all = all_of;
  ascending = λ d. ap (are_ascending tag_less) (map_same (key_at tags d) (key_at tags tag) (k + 1) more (same d) (below_of (k + 1) more all_of)) ∙ up;
}
  where
    zero_plus : (k : ℕ) → 0 + k ≡ k
    zero_plus k = omega arith

    all_of : IsPermutation (range_with_len 0 (k + 1)) more
    all_of =
        subst (λ m. IsPermutation (range_with_len 0 (k + 1)) m) (sym is_more)
        (IsPermutation-trans (range_with_len 0 (k + 1)) (k ∷ order) (insert order place k)
        (subst (λ r. IsPermutation r (k ∷ order)) (sym (range_more 0 k ∙ ap (λ n. range_with_len 0 k ++ n ∷ []) (zero_plus k)))
        (IsPermutation-trans (range_with_len 0 k ++ k ∷ []) (k ∷ range_with_len 0 k) (k ∷ order)
        (IsPermutation-to_front (range_with_len 0 k) k)
        (IsPermutation-cons k (range_with_len 0 k) order s.all)))
        (IsPermutation-insert order place k))

    within : (i : ℕ) → i < k + 1 → k < length tags → i < length tags
    within i h l = omega arith

    same : (d : Tag) (i : ℕ) → i < k + 1 → key_at tags d i ≡ key_at tags tag i
    same d i h = ap tag_of (get_or_default tags i d tag (within i h l))

    own : key_at tags tag k ≡ tag_of tag
    own = ap tag_of (sym is_tag)

    at : place ≡ prefix_len (λ y. tag_less (key_at tags tag y) (key_at tags tag k)) order
    at = is_place ∙ ap (λ t. prefix_len (λ y. tag_less (key_at tags tag y) t) order) (sym own)

    new : is_new (key_at tags tag k) (map (key_at tags tag) order) ≡ true
    new = new-at (key_at tags tag) order k (λ d h.
        subst (λ n. tag_same (key_at tags tag (get_or order n d)) (key_at tags tag k) ≡ false) at
        (subst (λ t. tag_same (key_at tags tag (get_or order place d)) t ≡ false) (sym own) (differs d (subst (λ n. n < length order) (sym at) h))))

    up : are_ascending tag_less (map (key_at tags tag) more) ≡ true
    up =
        ap (are_ascending tag_less) (ap (map (key_at tags tag)) is_more ∙ ap (λ n. map (key_at tags tag) (insert order n k)) at ∙ map-insert (key_at tags tag) order k)
        ∙ ascend_put (key_at tags tag k) (map (key_at tags tag) order) (s.ascending tag) new

-- An index in an order is below the count.
pub order_read : (tags : List Tag) (k : ℕ) (order : List ℕ) (place i : ℕ) → AreInOrder tags k order → place < length order → i ≡ get_or order place i → i < k
order_read tags k order place i s l e = subst (λ j. j < k) (sym e) (order_below tags k order s place i l)

-- A tag at an index is below the number of tags.
pub tag_within : (tags : List Tag) (k : ℕ) (tag : Tag) → slice_get tags k ≡ Some tag → k < length tags
tag_within [] k tag h = absurd (cc)
tag_within (t ∷ tags) zero tag h = above_zero (length tags)
tag_within (t ∷ tags) (suc k) tag h = more (tag_within tags k tag h)
  where
    more : k < length tags → suc k < suc (length tags)
    more l = omega arith

pub order_same : (tags : List Tag) (first second : ℕ) (tag : Tag) → ((d : Tag) → get_or tags first d ≡ tag) → slice_get tags second ≡ Some tag → (d : Tag) → get_or tags first d ≡ get_or tags second d
order_same tags first second tag h e d = h d ∙ sym (get_or_from_slice_get tags second tag d e)
