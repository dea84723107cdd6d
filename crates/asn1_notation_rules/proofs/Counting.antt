-- Laws of the numbers that automatic tagging gives.
use Rattle.std.proofs.Common.{◌≡◌, ℕ, ◌+◌, ◌<◌, ◌≤◌, Bool, true, false, cond, not, List, [], ◌∷◌, ◌++◌, length, get_or, take, drop, refl, ap, sym, subst, ◌∙◌, inl, inr, arith}
use Rattle.std.specs.List.{count_by}
use Rattle.std.proofs.Math.Seq.{get_or-append_seam}
use Rattle.std.proofs.lemmas.Bool.{cases_lt}
use Rattle.std.proofs.lemmas.List.{get_or_append_left, take-append-drop}
use Rattle.std.proofs.lemmas.List.Sums.{count_by_more_no, count_by_more_yes, sum_by-append}
use Rattle.asn1_schema_tags.specs.Tags.{tag_of}
use Rattle.asn1_schema_tags.specs.declared.tags.Tag.{Tag}
use Rattle.asn1_notation_rules.specs.Tags.{automatic_number, context_tag}

abbrev pub yes : Bool → Bool
yes b = b

-- The two kinds of components together are all.
pub count_both : (xs : List Bool) → count_by not xs + count_by yes xs ≡ length xs
count_both [] = refl
count_both (true ∷ xs) = omega (arith, sum_by-append (λ x. cond (not x) 1 0) (true ∷ []) xs, sum_by-append (λ x. cond (yes x) 1 0) (true ∷ []) xs, count_both xs)
count_both (false ∷ xs) = omega (arith, sum_by-append (λ x. cond (not x) 1 0) (false ∷ []) xs, sum_by-append (λ x. cond (yes x) 1 0) (false ∷ []) xs, count_both xs)

pub count_part : (p : Bool → Bool) (k : ℕ) (xs : List Bool) → count_by p (take k xs) ≤ count_by p xs
count_part p k xs = subst (λ l. count_by p (take k xs) ≤ count_by p l) (take-append-drop k xs) (part (take k xs) (drop k xs))
  where
    part : (ys zs : List Bool) → count_by p ys ≤ count_by p (ys ++ zs)
    part ys zs = omega (arith, sum_by-append (λ x. cond (p x) 1 0) ys zs)

pub root_more : (xs : List Bool) (k : ℕ) (d : Bool) → k < length xs → get_or xs k d ≡ false → count_by not (take (k + 1) xs) ≡ count_by not (take k xs) + 1
root_more xs k d l h = count_by_more_yes not xs k d l (ap not h)

pub root_same : (xs : List Bool) (k : ℕ) (d : Bool) → k < length xs → get_or xs k d ≡ true → count_by not (take (k + 1) xs) ≡ count_by not (take k xs)
root_same xs k d l h = count_by_more_no not xs k d l (ap not h)

pub added_more : (xs : List Bool) (k : ℕ) (d : Bool) → k < length xs → get_or xs k d ≡ true → count_by yes (take (k + 1) xs) ≡ count_by yes (take k xs) + 1
added_more xs k d l h = count_by_more_yes yes xs k d l h

pub added_same : (xs : List Bool) (k : ℕ) (d : Bool) → k < length xs → get_or xs k d ≡ false → count_by yes (take (k + 1) xs) ≡ count_by yes (take k xs)
added_same xs k d l h = count_by_more_no yes xs k d l h

-- The number of each component is below how many there are.
pub root_number_below : (xs : List Bool) (k : ℕ) (d : Bool) → k < length xs → get_or xs k d ≡ false → count_by not (take k xs) < length xs
root_number_below xs k d l h = omega (arith, root_more xs k d l h, count_part not (k + 1) xs, count_both xs)

pub added_number_below : (xs : List Bool) (k : ℕ) (d : Bool) → k < length xs → get_or xs k d ≡ true → count_by not xs + count_by yes (take k xs) < length xs
added_number_below xs k d l h = omega (arith, added_more xs k d l h, count_part yes (k + 1) xs, count_both xs)

pub number_of_root : (xs : List Bool) (k : ℕ) → k < length xs → get_or xs k false ≡ false → automatic_number xs k ≡ count_by not (take k xs)
number_of_root xs k l h = ap (λ b. cond b (count_by not xs + count_by yes (take k xs)) (count_by not (take k xs))) h

pub number_of_added : (xs : List Bool) (k : ℕ) → k < length xs → get_or xs k false ≡ true → automatic_number xs k ≡ count_by not xs + count_by yes (take k xs)
number_of_added xs k l h = ap (λ b. cond b (count_by not xs + count_by yes (take k xs)) (count_by not (take k xs))) h

-- One more tag.
pub tags_more : (xs : List Bool) (k : ℕ) (tags : List Tag) (tag : Tag) → length tags ≡ k → ((j : ℕ) (d : Tag) → j < k → tag_of (get_or tags j d) ≡ context_tag (automatic_number xs j)) → tag_of tag ≡ context_tag (automatic_number xs k) → (j : ℕ) (d : Tag) → j < k + 1 → tag_of (get_or (tags ++ tag ∷ []) j d) ≡ context_tag (automatic_number xs j)
tags_more xs k tags tag n all here j d l = elim (cases_lt j k) [
  | inl b ↦ ap tag_of (get_or_append_left tags (tag ∷ []) d j (subst (λ m. j < m) (sym n) b)) ∙ all j d b
  | inr b ↦
      let e : j ≡ length tags = omega arith in
      let f : k ≡ j = omega arith in
      ap (λ i. tag_of (get_or (tags ++ tag ∷ []) i d)) e
      ∙ ap tag_of (get_or-append_seam tags tag [] d)
      ∙ here
      ∙ ap (λ i. context_tag (automatic_number xs i)) f
]
