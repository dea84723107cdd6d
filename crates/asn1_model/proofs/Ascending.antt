-- Numbers in ascending order, each once.
use Rattle.std.proofs.Common.{◌≡◌, ◌⊎◌, ℕ, zero, suc, ◌<◌, ltb, ◌==◌, Bool, true, false, cond, List, [], ◌∷◌, refl, ap, sym, ◌∙◌, inl, inr, arith, subst}
use Rattle.std.specs.List.{Contains}
use Rattle.std.proofs.lemmas.Bool.{ltb-true, ltb-false, lt-ltb, eqb-true, eqb-false, and_parts, and_from}
use Rattle.std.proofs.lemmas.List.Elements.{Contains-append_right, Contains-append_cases}
use Rattle.asn1_model.specs.Lawful.{are_ascending}
use Rattle.asn1_model.specs.Strings.{put_in, sorted}

-- ---- elements
pub at_front : (c : ℕ) (cs : List ℕ) → Contains (c ∷ cs) c
at_front c cs = (0, omega arith, refl)

pub behind_front : (d : ℕ) (cs : List ℕ) (c : ℕ) → Contains cs c → Contains (d ∷ cs) c
behind_front d cs c h = Contains-append_right (d ∷ []) cs c h

pub none_in : {X : Type 0} (c : ℕ) → Contains [] c → X
none_in c h = let a = h.1 in absurd (omega arith)

alone : (d c : ℕ) → Contains (d ∷ []) c → c ≡ d
alone d c (zero, l, e) = sym e
alone d c (suc k, l, e) = absurd (omega arith)

pub front_or_behind : (d : ℕ) (cs : List ℕ) (c : ℕ) → Contains (d ∷ cs) c → (c ≡ d) ⊎ Contains cs c
front_or_behind d cs c h = go (Contains-append_cases (d ∷ []) cs c h)
  where
    go : Contains (d ∷ []) c ⊎ Contains cs c → (c ≡ d) ⊎ Contains cs c
    go (inl a) = inl (alone d c a)
    go (inr b) = inr b

-- ---- lists that ascend
pub rest_ascends : (c : ℕ) (cs : List ℕ) → are_ascending ltb (c ∷ cs) ≡ true → are_ascending ltb cs ≡ true
rest_ascends c [] h = refl
rest_ascends c (d ∷ cs) h = (and_parts _ _ h).1

pub above_front : (c : ℕ) (cs : List ℕ) (d : ℕ) → are_ascending ltb (c ∷ cs) ≡ true → Contains cs d → c < d
above_front c [] d h i = none_in d i
above_front c (e ∷ cs) d h i =
    let p = and_parts _ _ h in
    let a = ltb-true c e p.0 in
    go a (above_front e cs d p.1) (front_or_behind e cs d i)
  where
    go : c < e → (Contains cs d → e < d) → (d ≡ e) ⊎ Contains cs d → c < d
    go a k (inl q) = omega arith
    go a k (inr q) = let b = k q in omega arith

-- what is less than all of a list comes before it
pub in_front : (c : ℕ) (cs : List ℕ) → ((d : ℕ) → Contains cs d → c < d) → are_ascending ltb cs ≡ true → are_ascending ltb (c ∷ cs) ≡ true
in_front c [] k h = refl
in_front c (d ∷ cs) k h = and_from _ _ (lt-ltb c d (k d (at_front d cs))) h

-- two lists of the same elements are equal
pub same_ascending : (cs ds : List ℕ) → are_ascending ltb cs ≡ true → are_ascending ltb ds ≡ true → ((c : ℕ) → Contains cs c → Contains ds c) → ((c : ℕ) → Contains ds c → Contains cs c) → cs ≡ ds
same_ascending [] [] h i f g = refl
same_ascending [] (d ∷ ds) h i f g = none_in d (g d (at_front d ds))
same_ascending (c ∷ cs) [] h i f g = none_in c (f c (at_front c cs))
same_ascending (c ∷ cs) (d ∷ ds) h i f g =
    let e = fronts (front_or_behind d ds c (f c (at_front c cs))) (front_or_behind c cs d (g d (at_front d ds))) in
    let r = same_ascending cs ds (rest_ascends c cs h) (rest_ascends d ds i)
    (λ x k. behind e x (above_front c cs x h k) (front_or_behind d ds x (f x (behind_front c cs x k))))
    (λ x k. also_behind e x (above_front d ds x i k) (front_or_behind c cs x (g x (behind_front d ds x k)))) in
    ap (λ x. x ∷ cs) e ∙ ap (λ xs. d ∷ xs) r
  where
    fronts : (c ≡ d) ⊎ Contains ds c → (d ≡ c) ⊎ Contains cs d → c ≡ d
    fronts (inl p) q = p
    fronts (inr p) (inl q) = sym q
    fronts (inr p) (inr q) = let a = above_front d ds c i p in let b = above_front c cs d h q in absurd (omega arith)

    behind : c ≡ d → (x : ℕ) → c < x → (x ≡ d) ⊎ Contains ds x → Contains ds x
    behind e x l (inl p) = absurd (omega arith)
    behind e x l (inr p) = p

    also_behind : c ≡ d → (x : ℕ) → d < x → (x ≡ c) ⊎ Contains cs x → Contains cs x
    also_behind e x l (inl p) = absurd (omega arith)
    also_behind e x l (inr p) = p

-- ---- a number inserted among others
equal_from : (a b : ℕ) → (a == b) ≡ true → a ≡ b
equal_from a b e = eqb-true a b e

differ_from : (a b : ℕ) → (a == b) ≡ false → a ≡ b → ⊥
differ_from a b e f = eqb-false a b e f

pub put_has : (c d : ℕ) (ds : List ℕ) → (d ≡ c) ⊎ Contains ds d → Contains (put_in c ds) d
put_has c d [] (inl e) = subst (λ x. Contains (c ∷ []) x) (sym e) (at_front c [])
put_has c d [] (inr e) = none_in d e
put_has c d (x ∷ ds) h = step (ltb c x) (c == x) refl h (put_has c d ds)
  where
    step : (t u : Bool) → (c == x) ≡ u → (d ≡ c) ⊎ Contains (x ∷ ds) d → ((d ≡ c) ⊎ Contains ds d → Contains (put_in c ds) d) → Contains (cond t (c ∷ x ∷ ds) (cond u (x ∷ ds) (x ∷ put_in c ds))) d
    step true u e (inl p) k = subst (λ y. Contains (c ∷ x ∷ ds) y) (sym p) (at_front c (x ∷ ds))
    step true u e (inr p) k = behind_front c (x ∷ ds) d p
    step false true e (inl p) k = subst (λ y. Contains (x ∷ ds) y) (sym (p ∙ equal_from c x e)) (at_front x ds)
    step false true e (inr p) k = p
    step false false e (inl p) k = behind_front x (put_in c ds) d (k (inl p))
    step false false e (inr p) k = other (front_or_behind x ds d p)
      where
        other : (d ≡ x) ⊎ Contains ds d → Contains (x ∷ put_in c ds) d
        other (inl q) = subst (λ y. Contains (x ∷ put_in c ds) y) (sym q) (at_front x (put_in c ds))
        other (inr q) = behind_front x (put_in c ds) d (k (inr q))

pub put_only : (c d : ℕ) (ds : List ℕ) → Contains (put_in c ds) d → (d ≡ c) ⊎ Contains ds d
put_only c d [] h = front_or_behind c [] d h
put_only c d (x ∷ ds) h = step (ltb c x) (c == x) h (put_only c d ds)
  where
    more : (d ≡ c) ⊎ Contains ds d → (d ≡ c) ⊎ Contains (x ∷ ds) d
    more (inl p) = inl p
    more (inr p) = inr (behind_front x ds d p)

    step : (t u : Bool) → Contains (cond t (c ∷ x ∷ ds) (cond u (x ∷ ds) (x ∷ put_in c ds))) d → (Contains (put_in c ds) d → (d ≡ c) ⊎ Contains ds d) → (d ≡ c) ⊎ Contains (x ∷ ds) d
    step true u i k = front_or_behind c (x ∷ ds) d i
    step false true i k = inr i
    step false false i k = other (front_or_behind x (put_in c ds) d i)
      where
        other : (d ≡ x) ⊎ Contains (put_in c ds) d → (d ≡ c) ⊎ Contains (x ∷ ds) d
        other (inl q) = inr (subst (λ y. Contains (x ∷ ds) y) (sym q) (at_front x ds))
        other (inr q) = more (k q)

pub put_ascends : (c : ℕ) (ds : List ℕ) → are_ascending ltb ds ≡ true → are_ascending ltb (put_in c ds) ≡ true
put_ascends c [] h = refl
put_ascends c (x ∷ ds) h = step (ltb c x) (c == x) refl refl (put_ascends c ds (rest_ascends x ds h))
  where
    above : ltb c x ≡ false → (c == x) ≡ false → (d : ℕ) → (d ≡ c) ⊎ Contains ds d → x < d
    above e f d (inl p) = let a = ltb-false c x e in let b = differ_from c x f in omega arith
    above e f d (inr p) = above_front x ds d h p

    step : (t u : Bool) → ltb c x ≡ t → (c == x) ≡ u → are_ascending ltb (put_in c ds) ≡ true → are_ascending ltb (cond t (c ∷ x ∷ ds) (cond u (x ∷ ds) (x ∷ put_in c ds))) ≡ true
    step true u e f k = and_from _ _ e h
    step false true e f k = h
    step false false e f k = in_front x (put_in c ds) (λ d i. above e f d (put_only c d ds i)) k

-- ---- numbers in order
pub order_ascends : (cs : List ℕ) → are_ascending ltb (sorted cs) ≡ true
order_ascends [] = refl
order_ascends (c ∷ cs) = put_ascends c (sorted cs) (order_ascends cs)

pub order_has : (cs : List ℕ) (d : ℕ) → Contains cs d → Contains (sorted cs) d
order_has [] d h = h
order_has (c ∷ cs) d h = put_has c d (sorted cs) (step (front_or_behind c cs d h) (order_has cs d))
  where
    step : (d ≡ c) ⊎ Contains cs d → (Contains cs d → Contains (sorted cs) d) → (d ≡ c) ⊎ Contains (sorted cs) d
    step (inl p) k = inl p
    step (inr p) k = inr (k p)

pub order_only : (cs : List ℕ) (d : ℕ) → Contains (sorted cs) d → Contains cs d
order_only [] d h = h
order_only (c ∷ cs) d h = step (put_only c d (sorted cs) h) (order_only cs d)
  where
    step : (d ≡ c) ⊎ Contains (sorted cs) d → (Contains (sorted cs) d → Contains cs d) → Contains (c ∷ cs) d
    step (inl p) k = subst (λ y. Contains (c ∷ cs) y) (sym p) (at_front c cs)
    step (inr p) k = behind_front c cs d (k p)

-- numbers that ascend are in order
pub ascending_order : (cs : List ℕ) → are_ascending ltb cs ≡ true → sorted cs ≡ cs
ascending_order cs h = same_ascending (sorted cs) cs (order_ascends cs) h (order_only cs) (order_has cs)
