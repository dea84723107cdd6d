-- Characters in ascending order.
use Rattle.std.proofs.Common.{◌≡◌, ◌⊎◌, ℕ, suc, ◌+◌, ◌<◌, ◌≤◌, ltb, Bool, true, false, cond, List, [], ◌∷◌, ◌++◌, filter, refl, ap, sym, ◌∙◌, subst, inl, inr, slice_index, nat_cmp, arith}
use Rattle.std.specs.List.{Contains, dedup}
use Rattle.std.proofs.Math.Dec.{eqb}
use Rattle.std.specs.List.Sorted.{IsPermutation, IsSorted, IsStrictlyIncreasing}
use Rattle.std.proofs.lemmas.Bool.{ltb-true, lt-ltb, and_parts, and_from}
use Rattle.std.proofs.lemmas.List.Kept.{Contains-dedup_nat, Contains-from_dedup}
use Rattle.std.proofs.lemmas.List.Sorted.{Contains-permutation, IsPermutation-sym}
use Rattle.std.proofs.lemmas.Map.Keys.{IsStrictlyIncreasing-dedup}
use Rattle.asn1_model.specs.Lawful.{are_ascending}
use Rattle.asn1_model.specs.Strings.{sorted}
use Rattle.asn1_model.proofs.Ascending.{at_front, behind_front, front_or_behind, none_in, rest_ascends, above_front, in_front, same_ascending, order_ascends, order_has, order_only}

-- ---- a list that ascends, and one more
pub ascends_more : (fs : List ℕ) (n c : ℕ) → n ≤ c → are_ascending ltb (fs ++ n ∷ []) ≡ true → are_ascending ltb ((fs ++ c ∷ []) ++ (c + 1) ∷ []) ≡ true
ascends_more [] n c l h = and_from _ _ (lt-ltb c (c + 1) (omega arith)) refl
ascends_more (x ∷ []) n c l h =
    let a = ltb-true x n ((and_parts _ _ h).0) in
    and_from _ _ (lt-ltb x c (omega arith)) (and_from _ _ (lt-ltb c (c + 1) (omega arith)) refl)
ascends_more (x ∷ y ∷ fs) n c l h = let p = and_parts _ _ h in and_from _ _ p.0 (ascends_more (y ∷ fs) n c l p.1)

pub ascends_front : (fs : List ℕ) (n : ℕ) → are_ascending ltb (fs ++ n ∷ []) ≡ true → are_ascending ltb fs ≡ true
ascends_front [] n h = refl
ascends_front (x ∷ []) n h = refl
ascends_front (x ∷ y ∷ fs) n h = let p = and_parts _ _ h in and_from _ _ p.0 (ascends_front (y ∷ fs) n p.1)

-- ---- what a test leaves
left_has : (test : ℕ → Bool) (cs : List ℕ) (d : ℕ) → test d ≡ true → Contains cs d → Contains (filter test cs) d
left_has test [] d t h = h
left_has test (c ∷ cs) d t h = step (test c) refl (front_or_behind c cs d h) (left_has test cs d t)
  where
    step : (b : Bool) → test c ≡ b → (d ≡ c) ⊎ Contains cs d → (Contains cs d → Contains (filter test cs) d) → Contains (cond b (c ∷ filter test cs) (filter test cs)) d
    step true e (inl p) k = subst (λ x. Contains (c ∷ filter test cs) x) (sym p) (at_front c (filter test cs))
    step true e (inr p) k = behind_front c (filter test cs) d (k p)
    step false e (inl p) k = let f : true ≡ false = sym t ∙ ap test p ∙ e in cc
    step false e (inr p) k = k p

left_only : (test : ℕ → Bool) (cs : List ℕ) (d : ℕ) → Contains (filter test cs) d → Contains cs d × (test d ≡ true)
left_only test [] d h = none_in d h
left_only test (c ∷ cs) d h = step (test c) refl h (left_only test cs d)
  where
    behind : Contains cs d × (test d ≡ true) → Contains (c ∷ cs) d × (test d ≡ true)
    behind p = (behind_front c cs d p.0, p.1)

    front : test c ≡ true → (d ≡ c) ⊎ Contains (filter test cs) d → (Contains (filter test cs) d → Contains cs d × (test d ≡ true)) → Contains (c ∷ cs) d × (test d ≡ true)
    front e (inl p) k = (subst (λ x. Contains (c ∷ cs) x) (sym p) (at_front c cs), ap test p ∙ e)
    front e (inr p) k = behind (k p)

    step : (b : Bool) → test c ≡ b → Contains (cond b (c ∷ filter test cs) (filter test cs)) d → (Contains (filter test cs) d → Contains cs d × (test d ≡ true)) → Contains (c ∷ cs) d × (test d ≡ true)
    step true e i k = front e (front_or_behind c (filter test cs) d i) k
    step false e i k = behind (k i)

left_ascends : (test : ℕ → Bool) (cs : List ℕ) → are_ascending ltb cs ≡ true → are_ascending ltb (filter test cs) ≡ true
left_ascends test [] h = refl
left_ascends test (c ∷ cs) h = step (test c) (left_ascends test cs (rest_ascends c cs h))
  where
    step : (b : Bool) → are_ascending ltb (filter test cs) ≡ true → are_ascending ltb (cond b (c ∷ filter test cs) (filter test cs)) ≡ true
    step true k = in_front c (filter test cs) (λ d i. above_front c cs d h ((left_only test cs d i).0)) k
    step false k = k

-- a test leaves of the characters in order what is left of them, in order
pub sorted_left : (test : ℕ → Bool) (cs : List ℕ) → filter test (sorted cs) ≡ sorted (filter test cs)
sorted_left test cs = same_ascending (filter test (sorted cs)) (sorted (filter test cs)) (left_ascends test (sorted cs) (order_ascends cs))
    (order_ascends (filter test cs)) (λ d h. there d (left_only test (sorted cs) d h)) (λ d h. back d (left_only test cs d (order_only (filter test cs) d h)))
  where
    there : (d : ℕ) → Contains (sorted cs) d × (test d ≡ true) → Contains (sorted (filter test cs)) d
    there d p = order_has (filter test cs) d (left_has test cs d p.1 (order_only cs d p.0))

    back : (d : ℕ) → Contains cs d × (test d ≡ true) → Contains (filter test (sorted cs)) d
    back d p = left_has test (sorted cs) d p.1 (order_has cs d p.0)

-- ---- sorted, without duplicates
increasing_ascends : (cs : List ℕ) → IsStrictlyIncreasing cs → are_ascending ltb cs ≡ true
increasing_ascends [] h = refl
increasing_ascends (c ∷ []) h = refl
increasing_ascends (c ∷ d ∷ cs) h = and_from _ _ (lt-ltb c d (h 0 (omega arith)))
    (increasing_ascends (d ∷ cs) (λ k l. let e : suc k + 1 ≡ suc (k + 1) = omega arith in subst (λ j. slice_index (c ∷ d ∷ cs) (suc k) < slice_index (c ∷ d ∷ cs) j) e (h (suc k) (omega arith))))

pub put_in_order : (cs ds : List ℕ) → IsPermutation cs ds → IsSorted nat_cmp ds → dedup eqb ds ≡ sorted cs
put_in_order cs ds p s = same_ascending (dedup eqb ds) (sorted cs) (increasing_ascends (dedup eqb ds) (IsStrictlyIncreasing-dedup ds s))
    (order_ascends cs) (λ x h. order_has cs x (Contains-permutation ds cs x (IsPermutation-sym cs ds p) (Contains-from_dedup eqb ds x h)))
    (λ x h. Contains-dedup_nat ds x (Contains-permutation cs ds x p (order_only cs x h)))
