-- Numbers in groups of seven bits, and object identifiers.
use Rattle.std.proofs.Common.{◌≡◌, ℕ, zero, suc, ◌+◌, ◌*◌, ◌/◌, ◌%◌, ◌^◌, ◌<◌, ◌≤◌, ◌==◌, max, ltb, lit<, true, ◌||◌}
use Rattle.std.proofs.Common.{List, [], ◌∷◌, ◌++◌, length, flat_map, refl, ap, sym, ◌∙◌, subst, inl, inr, ◌⊎◌, arith}
use Rattle.std.proofs.lemmas.List.{append_cancel_left}
use Rattle.std.proofs.lemmas.Bool.{ltb-true, leb-true, eqb-true, and_parts, or_cases}
use Rattle.std.proofs.Math.Nat.{pow-le-pow_right}
use Rattle.asn1_model.specs.Numbers.{digits, places}
use Rattle.asn1_model.specs.Strings.{with_top_bits, groups_of_seven, identifier_octets, is_identifier}
use Rattle.asn1_laws_values.proofs.Places.{places_hold}
use Rattle.asn1_laws_values.proofs.Numbers.{length-digits, digits_equal}

abbrev EachSmall : List ℕ → Type 0
EachSmall [] = Unit {0}
EachSmall (d ∷ ds) = (d < 128) × EachSmall ds

digits_small : (k n : ℕ) → EachSmall (digits 128 k n)
digits_small zero n = tt
digits_small (suc k) n = let d = n / 128 ^ k % 128 in (omega arith, digits_small k n)

-- none of these is a prefix of another
seven_fronts : (ds es r s : List ℕ) → 0 < length ds → 0 < length es → EachSmall ds → EachSmall es → with_top_bits ds ++ r ≡ with_top_bits es ++ s → ds ≡ es
seven_fronts [] es r s h i f g e = absurd (omega arith)
seven_fronts (d ∷ ds) [] r s h i f g e = absurd (omega arith)
seven_fronts (d ∷ []) (c ∷ []) r s h i f g e = let q : d ≡ c = cc in cc
seven_fronts (d ∷ []) (c ∷ c' ∷ es) r s h i f g e = let q : d ≡ c + 128 = cc in let j = f.0 in absurd (omega arith)
seven_fronts (d ∷ d' ∷ ds) (c ∷ []) r s h i f g e = let q : d + 128 ≡ c = cc in let j = g.0 in absurd (omega arith)
seven_fronts (d ∷ d' ∷ ds) (c ∷ c' ∷ es) r s h i f g e =
    let q : d + 128 ≡ c + 128 = cc in
    let p : d ≡ c = omega arith in
    let t : with_top_bits (d' ∷ ds) ++ r ≡ with_top_bits (c' ∷ es) ++ s = cc in
    let u = seven_fronts (d' ∷ ds) (c' ∷ es) r s (omega arith) (omega arith) f.1 g.1 t in
    cc

pub groups_fronts : (n m : ℕ) (r s : List ℕ) → groups_of_seven n ++ r ≡ groups_of_seven m ++ s → (groups_of_seven n ≡ groups_of_seven m) × (n ≡ m)
groups_fronts n m r s e =
    let k = max 1 (places 128 n) in
    let j = max 1 (places 128 m) in
    let a : length (digits 128 (max 1 (places 128 n)) n) ≡ max 1 (places 128 n) = length-digits 128 _ n in
    let b : length (digits 128 (max 1 (places 128 m)) m) ≡ max 1 (places 128 m) = length-digits 128 _ m in
    let q = seven_fronts (digits 128 (max 1 (places 128 n)) n) (digits 128 (max 1 (places 128 m)) m) r s (omega arith) (omega arith) (digits_small _ n) (digits_small _ m) e in
    let l : max 1 (places 128 n) ≡ max 1 (places 128 m) = sym a ∙ ap length q ∙ b in
    (ap with_top_bits q, holds (max 1 (places 128 n)) (max 1 (places 128 m)) l (holds_seven n) (holds_seven m) q)
  where
    holds_seven : (n : ℕ) → n < 128 ^ max 1 (places 128 n)
    holds_seven n =
        let c : n < 128 ^ places 128 n = places_hold n 128 n (lit< tt) (omega arith) in
        let d : 128 ^ places 128 n ≤ 128 ^ max 1 (places 128 n) = pow-le-pow_right (lit< tt) (omega arith) in
        omega arith

    holds : (k j : ℕ) → k ≡ j → n < 128 ^ k → m < 128 ^ j → digits 128 k n ≡ digits 128 j m → n ≡ m
    holds k j l c d q = digits_equal 128 k n m (lit< tt) c (subst (λ x. m < 128 ^ x) (sym l) d) (q ∙ ap (λ x. digits 128 x m) (sym l))

groups_some : (n : ℕ) (r : List ℕ) → [] ≡ groups_of_seven n ++ r → ⊥
groups_some n r e = some (digits 128 (max 1 (places 128 n)) n) (let a = length-digits 128 (max 1 (places 128 n)) n in omega arith) e
  where
    some : (ds : List ℕ) → 0 < length ds → [] ≡ with_top_bits ds ++ r → ⊥
    some [] h e = omega arith
    some (d ∷ []) h e = cc
    some (d ∷ d' ∷ ds) h e = cc

sevens_equal : (xs ys : List ℕ) → flat_map groups_of_seven xs ≡ flat_map groups_of_seven ys → xs ≡ ys
sevens_equal [] [] e = refl
sevens_equal [] (y ∷ ys) e = absurd (groups_some y (flat_map groups_of_seven ys) e)
sevens_equal (x ∷ xs) [] e = absurd (groups_some x (flat_map groups_of_seven xs) (sym e))
sevens_equal (x ∷ xs) (y ∷ ys) e =
    let q = groups_fronts x y (flat_map groups_of_seven xs) (flat_map groups_of_seven ys) e in
    let t : flat_map groups_of_seven xs ≡ flat_map groups_of_seven ys = append_cancel_left (groups_of_seven x) _ _ (e ∙ ap (λ l. l ++ flat_map groups_of_seven ys) (sym q.0)) in
    let r = sevens_equal xs ys t in
    let p = q.1 in
    cc

-- the first two arcs, from the number that they share
first_arcs : (a b c d : ℕ) → a ≤ 2 → (a == 2 || ltb b 40) ≡ true → c ≤ 2 → (c == 2 || ltb d 40) ≡ true → 40 * a + b ≡ 40 * c + d → (a ≡ c) × (b ≡ d)
first_arcs a b c d h i j k e = go (or_cases _ _ i) (or_cases _ _ k)
  where
    go : ((a == 2) ≡ true) ⊎ (ltb b 40 ≡ true) → ((c == 2) ≡ true) ⊎ (ltb d 40 ≡ true) → (a ≡ c) × (b ≡ d)
    go (inl p) (inl q) = let p' = eqb-true _ _ p in let q' = eqb-true _ _ q in (omega arith, omega arith)
    go (inl p) (inr q) = let p' = eqb-true _ _ p in let q' = ltb-true _ _ q in (omega arith, omega arith)
    go (inr p) (inl q) = let p' = ltb-true _ _ p in let q' = eqb-true _ _ q in (omega arith, omega arith)
    go (inr p) (inr q) = let p' = ltb-true _ _ p in let q' = ltb-true _ _ q in (omega arith, omega arith)

pub identifiers_equal : (ns ms : List ℕ) → is_identifier ns ≡ true → is_identifier ms ≡ true → identifier_octets ns ≡ identifier_octets ms → ns ≡ ms
identifiers_equal [] ms h i e = cc
identifiers_equal (a ∷ []) ms h i e = cc
identifiers_equal (a ∷ b ∷ ns) [] h i e = cc
identifiers_equal (a ∷ b ∷ ns) (c ∷ []) h i e = cc
identifiers_equal (a ∷ b ∷ ns) (c ∷ d ∷ ms) h i e =
    let h' = and_parts _ _ ((and_parts _ _ h).0) in
    let i' = and_parts _ _ ((and_parts _ _ i).0) in
    let q = groups_fronts (40 * a + b) (40 * c + d) (flat_map groups_of_seven ns) (flat_map groups_of_seven ms) e in
    let t : flat_map groups_of_seven ns ≡ flat_map groups_of_seven ms = append_cancel_left (groups_of_seven (40 * a + b)) _ _ (e ∙ ap (λ l. l ++ flat_map groups_of_seven ms) (sym q.0)) in
    let r = sevens_equal ns ms t in
    let f = first_arcs a b c d (leb-true _ _ h'.0) h'.1 (leb-true _ _ i'.0) i'.1 q.1 in
    let x = f.0 in
    let y = f.1 in
    cc
