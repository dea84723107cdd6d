-- Prefixes of numbers, length determinants and units of the packed rules.
use Rattle.std.specs.Prelude.{ℤ}
use Rattle.std.proofs.Common.{◌≡◌, ℕ, zero, suc, ◌+◌, ◌-◌, ◌*◌, ◌/◌, ◌%◌, ◌^◌, ◌<◌, ◌≤◌, ◌==◌, leb, ltb, not, lit<}
use Rattle.std.proofs.Common.{Bool, true, false, cond, ◌&&◌, ◌||◌, List, [], ◌∷◌, length, take, drop, map, flat_map}
use Rattle.std.proofs.Common.{Option, Some, None, refl, ap, sym, ◌∙◌, subst, length-append, arith}
use Rattle.std.proofs.lemmas.List.{take-map, drop-map, length-take-le}
use Rattle.std.proofs.lemmas.Nat.{mod-pow-add}
use Rattle.std.proofs.Math.Nat.{mod-eq_of_lt}
use Rattle.std.proofs.lemmas.Bool.{ltb-true, leb-true, eqb-true, and_parts}
use Rattle.asn1_model.specs.Schema.{Range, Bounds}
use Rattle.asn1_model.specs.Numbers.{digits, binary, width, octet_width, least_octets, signed_octets, complement, above, is_at_most, is_within, fits_128}
use Rattle.asn1_model.specs.Form.{exactly, both, varied, only_if, joined}
use Rattle.asn1_model.specs.Normal.{is_bounded}
use Rattle.asn1_model.specs.Strings.{is_octet}
use Rattle.std.specs.List.{list_all}
use Rattle.asn1_model.specs.Per
use Rattle.asn1_laws_values.proofs.Places.{places_hold}
use Rattle.asn1_laws_values.proofs.Numbers.{length-digits, length-complement, digits_equal, complement_equal, least_hold, signed_hold, above_equal}
use Rattle.asn1_laws_fronts.proofs.Fronts.{Agree, Pairwise, fronts_equal, agree_exactly, agree_refused, agree_map}
use Rattle.asn1_laws_fronts.proofs.Fronts.{agree_both, agree_both_apart, agree_placed, agree_varied, agree_varied_left}
use Rattle.asn1_laws_fronts.proofs.Fronts.{agree_varied_right, agree_if, agree_if_left, agree_if_right, agree_given}
use Rattle.asn1_laws_fronts.proofs.Fronts.{agree_first, agree_nothing}

-- ---- numbers of a given count of bits
bit_equal : (a b : ℕ) → a < 2 → b < 2 → (a == 1) ≡ (b == 1) → a ≡ b
bit_equal zero zero h k e = refl
bit_equal zero (suc zero) h k e = cc
bit_equal (suc zero) zero h k e = cc
bit_equal (suc zero) (suc zero) h k e = refl
bit_equal (suc (suc a)) b h k e = absurd (omega arith)
bit_equal a (suc (suc b)) h k e = absurd (omega arith)

low_equal : (w n m : ℕ) → binary w n ≡ binary w m → n % 2 ^ w ≡ m % 2 ^ w
low_equal zero n m e = omega arith
low_equal (suc w) n m e =
    let head : (n / 2 ^ w % 2 == 1) ≡ (m / 2 ^ w % 2 == 1) = cc in
    let tail : binary w n ≡ binary w m = cc in
    let low = low_equal w n m tail in
    let top = bit_equal (n / 2 ^ w % 2) (m / 2 ^ w % 2) (omega arith) (omega arith) head in
    let s : suc w ≡ 1 + w = omega arith in
    let high : (n / 2 ^ w % 2 ^ 1) * 2 ^ w ≡ (m / 2 ^ w % 2 ^ 1) * 2 ^ w = ap (λ x. x * 2 ^ w) top in
    ap (λ x. n % 2 ^ x) s ∙ mod-pow-add n 1 w ∙ ap (λ x. x + n % 2 ^ w) high ∙ ap (λ x. (m / 2 ^ w % 2 ^ 1) * 2 ^ w + x) low ∙ sym (mod-pow-add m 1 w) ∙ ap (λ x. m % 2 ^ x) (sym s)

small_mod : (n d : ℕ) → n < d → n % d ≡ n
small_mod n d h = mod-eq_of_lt h

pub binary_equal : (w n m : ℕ) → n < 2 ^ w → m < 2 ^ w → binary w n ≡ binary w m → n ≡ m
binary_equal w n m h k e = sym (small_mod n (2 ^ w) h) ∙ low_equal w n m e ∙ small_mod m (2 ^ w) k

pub length-binary : (w n : ℕ) → length (binary w n) ≡ w
length-binary zero n = refl
length-binary (suc w) n = ap suc (length-binary w n)

-- the bits of digits below 256
length-octets : (os : List ℕ) → length (flat_map (binary 8) os) ≡ 8 * length os
length-octets [] = refl
length-octets (o ∷ os) = let i = length-octets os in length-append (binary 8 o) (flat_map (binary 8) os) ∙ omega arith

bits_of_digits : (k n m : ℕ) → flat_map (binary 8) (digits 256 k n) ≡ flat_map (binary 8) (digits 256 k m) → digits 256 k n ≡ digits 256 k m
bits_of_digits zero n m e = refl
bits_of_digits (suc k) n m e =
    let x = n / 256 ^ k % 256 in
    let y = m / 256 ^ k % 256 in
    let h : binary 8 x ≡ binary 8 y = fronts_equal (binary 8 x) (binary 8 y) (flat_map (binary 8) (digits 256 k n)) (flat_map (binary 8) (digits 256 k m)) refl e in
    let t : flat_map (binary 8) (digits 256 k n) ≡ flat_map (binary 8) (digits 256 k m) = ap (drop 8) e in
    let i = bits_of_digits k n m t in
    let q : x ≡ y = binary_equal 8 x y (omega arith) (omega arith) h in
    cc

span_holds : (span n : ℕ) → n ≤ span → n < 2 ^ width span
span_holds span n h = let b = places_hold span 2 span (lit< tt) (omega arith) in omega (arith, b)

abbrev pub Alike : (Per.Freedom → Bool) → Per.BitForm → Per.BitForm → Type 0 → Type 0
Alike free x y P = Agree {F = Per.Freedom} {D = Per.Detail} {A = Bool} free x y P

pub length_of_map : {X Y : Type 0} (f : X → Y) (xs : List X) → length (map f xs) ≡ length xs
length_of_map f [] = refl
length_of_map f (x ∷ xs) = ap suc (length_of_map f xs)

different : true ≡ false → ⊥
different e = cc

different' : false ≡ true → ⊥
different' e = cc

module _ (free : Per.Freedom → Bool) where
  -- ---- padding
  pub padding_alike : (n : ℕ) → Alike free (Per.padding n) (Per.padding n) (Unit {0})
  unfolding Per.padding
  padding_alike n = agree_varied free (λ a b. agree_if free (length a == n) (length b == n) (exactly a) (exactly b)
      (λ h k. agree_map free (λ e. tt) (agree_exactly free a b (eqb-true _ _ h ∙ sym (eqb-true _ _ k)))))

  pub at_octet_alike : (al : Bool) {x y : Per.BitForm} {P : Type 0} → Alike free x y P → Alike free (Per.at_octet al x) (Per.at_octet al y) P
  unfolding Per.at_octet
  at_octet_alike false h = h
  at_octet_alike true h = agree_map free (λ q. q.1) (agree_both free (agree_placed free (λ p. padding_alike (Per.missing p))) (λ u. h))

  pub binary_alike : (w n m : ℕ) → n < 2 ^ w → m < 2 ^ w → Alike free (exactly (binary w n)) (exactly (binary w m)) (n ≡ m)
  binary_alike w n m h k = agree_map free (λ e. binary_equal w n m h k e) (agree_exactly free (binary w n) (binary w m) (length-binary w n ∙ sym (length-binary w m)))

  -- one bit, and then forms that agree if the bits are equal
  pub bits_apart : {l m : List Bool} {P : Type 0} → Alike free (exactly (true ∷ l)) (exactly (false ∷ m)) P
  bits_apart = agree_first free (λ e. absurd (different e))

  pub bits_apart' : {l m : List Bool} {P : Type 0} → Alike free (exactly (false ∷ l)) (exactly (true ∷ m)) P
  bits_apart' = agree_first free (λ e. absurd (different' e))

  -- ---- lengths
  abbrev long_form : ℕ → Per.BitForm
  long_form n = only_if (ltb n 16384) (exactly (true ∷ false ∷ binary 14 n))

  abbrev short_form : ℕ → Per.BitForm
  short_form n = only_if (ltb n 128) (exactly (false ∷ binary 7 n))

  lengths_alike : (n m : ℕ) (a b : Bool) → Alike free (cond a (long_form n) (short_form n)) (cond b (long_form m) (short_form m)) (n ≡ m)
  lengths_alike n m true true = agree_if free (ltb n 16384) (ltb m 16384) _ _ (λ h k. agree_first free (λ e. agree_first free (λ f. binary_alike 14 n m (ltb-true _ _ h) (ltb-true _ _ k))))
  lengths_alike n m true false = agree_if free (ltb n 16384) (ltb m 128) _ _ (λ h k. bits_apart)
  lengths_alike n m false true = agree_if free (ltb n 128) (ltb m 16384) _ _ (λ h k. bits_apart')
  lengths_alike n m false false = agree_if free (ltb n 128) (ltb m 128) _ _ (λ h k. agree_first free (λ e. binary_alike 7 n m (ltb-true _ _ h) (ltb-true _ _ k)))

  pub short_length_alike : (al : Bool) (n m : ℕ) → Alike free (Per.short_length al n) (Per.short_length al m) (n ≡ m)
  unfolding Per.short_length
  short_length_alike al n m = at_octet_alike al (agree_varied free (λ a b. lengths_alike n m a b))

  -- the head of a fragment differs from that of a last part
  abbrev head_form : ℕ → Per.BitForm
  head_form m = exactly (true ∷ true ∷ binary 6 m)

  head_apart : (m n : ℕ) (b : Bool) → Alike free (head_form m) (cond b (long_form n) (short_form n)) ⊥
  head_apart m n true = agree_if_right free (ltb n 16384) {x = head_form m} {y = exactly (true ∷ false ∷ binary 14 n)} (λ h. agree_first free (λ e. bits_apart))
  head_apart m n false = agree_if_right free (ltb n 128) {x = head_form m} {y = exactly (false ∷ binary 7 n)} (λ h. bits_apart)

  head_apart' : (m n : ℕ) (b : Bool) → Alike free (cond b (long_form n) (short_form n)) (head_form m) ⊥
  head_apart' m n true = agree_if_left free (ltb n 16384) {x = exactly (true ∷ false ∷ binary 14 n)} {y = head_form m} (λ h. agree_first free (λ e. bits_apart'))
  head_apart' m n false = agree_if_left free (ltb n 128) {x = exactly (false ∷ binary 7 n)} {y = head_form m} (λ h. bits_apart')

  head_or_last : (al : Bool) (m n : ℕ) → Alike free (Per.at_octet al (head_form m)) (Per.short_length al n) ⊥
  unfolding Per.short_length
  head_or_last al m n = at_octet_alike al (agree_varied_right free (λ b. head_apart m n b))

  last_or_head : (al : Bool) (m n : ℕ) → Alike free (Per.short_length al n) (Per.at_octet al (head_form m)) ⊥
  unfolding Per.short_length
  last_or_head al m n = at_octet_alike al (agree_varied_left free (λ b. head_apart' m n b))

  heads_alike : (al : Bool) (m n : ℕ) → m ≤ 4 → n ≤ 4 → Alike free (Per.at_octet al (head_form m)) (Per.at_octet al (head_form n)) (m ≡ n)
  heads_alike al m n h k = at_octet_alike al (agree_first free (λ e. agree_first free (λ f. binary_alike 6 m n (omega arith) (omega arith))))

-- ---- units after their length determinant: any division into fragments
pub pairs_length : {X : Type 0} (R : X → X → Type 0) (xs ys : List X) → Pairwise R xs ys → length xs ≡ length ys
pairs_length R [] [] h = refl
pairs_length R [] (y ∷ ys) h = absurd h
pairs_length R (x ∷ xs) [] h = absurd h
pairs_length R (x ∷ xs) (y ∷ ys) h = ap suc (pairs_length R xs ys h.1)

pairs_again : {X : Type 0} (R : X → X → Type 0) (k : ℕ) (xs ys : List X) → Pairwise R (take k xs) (take k ys) → Pairwise R (drop k xs) (drop k ys) → Pairwise R xs ys
pairs_again R zero xs ys h i = i
pairs_again R (suc k) [] [] h i = tt
pairs_again R (suc k) [] (y ∷ ys) h i = absurd h
pairs_again R (suc k) (x ∷ xs) [] h i = absurd h
pairs_again R (suc k) (x ∷ xs) (y ∷ ys) h i = (h.0, pairs_again R k xs ys h.1 i)

pub pairs_equal : {X : Type 0} (xs ys : List X) → Pairwise (λ x y. x ≡ y) xs ys → xs ≡ ys
pairs_equal [] [] h = refl
pairs_equal [] (y ∷ ys) h = absurd h
pairs_equal (x ∷ xs) [] h = absurd h
pairs_equal (x ∷ xs) (y ∷ ys) h = let e = h.0 in let f = pairs_equal xs ys h.1 in cc

module _ (free : Per.Freedom → Bool) (X : Type 0) (R : X → X → Type 0) (f : X → Per.BitForm) (one : (x y : X) → Alike free (f x) (f y) (R x y)) where
  pub joined_alike : (xs ys : List X) → length xs ≡ length ys → Alike free (joined (map f xs)) (joined (map f ys)) (Pairwise R xs ys)
  joined_alike [] [] h = agree_nothing free
  joined_alike [] (y ∷ ys) h = absurd (omega arith)
  joined_alike (x ∷ xs) [] h = absurd (omega arith)
  joined_alike (x ∷ xs) (y ∷ ys) h = agree_both free (one x y) (λ e. joined_alike xs ys (omega arith))

  abbrev next : Bool → ℕ → List ℕ → List X → Per.BitForm
  next al m ms xs = both (Per.at_octet al (head_form free m)) (both (joined (take (m * 16384) (map f xs))) (Per.fragments al ms (drop (m * 16384) (map f xs))))

  abbrev fits : ℕ → List X → Bool
  fits m xs = leb 1 m && leb m 4 && leb (m * 16384) (length (map f xs))

  took : (k : ℕ) (xs ys : List X) → k ≤ length xs → k ≤ length ys → Alike free (joined (take k (map f xs))) (joined (take k (map f ys))) (Pairwise R (take k xs) (take k ys))
  took k xs ys h i = rw (take-map f k xs, take-map f k ys) (joined_alike (take k xs) (take k ys) (length-take-le k xs h ∙ sym (length-take-le k ys i)))

  took_at : (m n : ℕ) (xs ys : List X) → m ≡ n → m * 16384 ≤ length (map f xs) → n * 16384 ≤ length (map f ys) →
      Alike free (joined (take (m * 16384) (map f xs))) (joined (take (n * 16384) (map f ys))) (Pairwise R (take (m * 16384) xs) (take (n * 16384) ys))
  took_at m n xs ys e h k =
      let P : ℕ → Type 0 = λ i. Alike free (joined (take (m * 16384) (map f xs))) (joined (take (i * 16384) (map f ys))) (Pairwise R (take (m * 16384) xs) (take (i * 16384) ys)) in
      let i : m * 16384 ≤ length xs = omega (arith, length_of_map f xs) in
      let j : m * 16384 ≤ length ys = omega (arith, length_of_map f ys) in
      subst P e (took (m * 16384) xs ys i j)

  rest_alike : (al : Bool) (m n : ℕ) (ms ns : List ℕ) (xs ys : List X) →
      ((us vs : List X) → Alike free (Per.fragments al ms (map f us)) (Per.fragments al ns (map f vs)) (Pairwise R us vs)) →
      Alike free (Per.fragments al ms (drop (m * 16384) (map f xs))) (Per.fragments al ns (drop (n * 16384) (map f ys))) (Pairwise R (drop (m * 16384) xs) (drop (n * 16384) ys))
  rest_alike al m n ms ns xs ys r = rw (drop-map f (m * 16384) xs, drop-map f (n * 16384) ys) (r (drop (m * 16384) xs) (drop (n * 16384) ys))

  all_again : (m n : ℕ) (xs ys : List X) → m ≡ n → Pairwise R (take (m * 16384) xs) (take (n * 16384) ys) → Pairwise R (drop (m * 16384) xs) (drop (n * 16384) ys) → Pairwise R xs ys
  all_again m n xs ys e h k = pairs_again R (m * 16384) xs ys
      (subst (λ i. Pairwise R (take (m * 16384) xs) (take (i * 16384) ys)) (sym e) h) (subst (λ i. Pairwise R (drop (m * 16384) xs) (drop (i * 16384) ys)) (sym e) k)

  both_heads : (al : Bool) (m n : ℕ) (ms ns : List ℕ) (xs ys : List X) → fits m xs ≡ true → fits n ys ≡ true →
      ((us vs : List X) → Alike free (Per.fragments al ms (map f us)) (Per.fragments al ns (map f vs)) (Pairwise R us vs)) → Alike free (next al m ms xs) (next al n ns ys) (Pairwise R xs ys)
  both_heads al m n ms ns xs ys h k r =
      let h' = and_parts _ _ h in
      let h'' = and_parts _ _ h'.0 in
      let k' = and_parts _ _ k in
      let k'' = and_parts _ _ k'.0 in
      agree_map free (λ q. all_again m n xs ys q.0 q.1.0 q.1.1)
      (agree_both free (heads_alike free al m n (leb-true _ _ h''.1) (leb-true _ _ k''.1))
      (λ e. agree_both free (took_at m n xs ys e (leb-true _ _ h'.1) (leb-true _ _ k'.1)) (λ u. rest_alike al m n ms ns xs ys r)))

  fragments_alike : (al : Bool) (ms ns : List ℕ) (xs ys : List X) → Alike free (Per.fragments al ms (map f xs)) (Per.fragments al ns (map f ys)) (Pairwise R xs ys)
  unfolding Per.fragments
  fragments_alike al [] [] xs ys = agree_map free (λ q. q.1)
      (agree_both free (short_length_alike free al (length (map f xs)) (length (map f ys))) (λ e. joined_alike xs ys (sym (length_of_map f xs) ∙ e ∙ length_of_map f ys)))
  fragments_alike al [] (n ∷ ns) xs ys = agree_if_right free
      (fits n ys) {x = both (Per.short_length al (length (map f xs))) (joined (map f xs))} {y = next al n ns ys} (λ h. agree_both_apart free (last_or_head free al n (length (map f xs))))
  fragments_alike al (m ∷ ms) [] xs ys = agree_if_left free
      (fits m xs) {x = next al m ms xs} {y = both (Per.short_length al (length (map f ys))) (joined (map f ys))} (λ h. agree_both_apart free (head_or_last free al m (length (map f ys))))
  fragments_alike al (m ∷ ms) (n ∷ ns) xs ys =
      agree_if free (fits m xs) (fits n ys) (next al m ms xs) (next al n ns ys) (λ h k. both_heads al m n ms ns xs ys h k (λ us vs. fragments_alike al ms ns us vs))

  pub counted_alike : (al : Bool) (xs ys : List X) → Alike free (Per.counted al (map f xs)) (Per.counted al (map f ys)) (Pairwise R xs ys)
  unfolding Per.counted
  counted_alike al xs ys = agree_varied free (λ ms ns. fragments_alike al ms ns xs ys)

-- ---- octets after their length determinant
abbrev pub same_bits : ℕ → ℕ → Type 0
same_bits o p = binary 8 o ≡ binary 8 p

pub octets_again : (os ps : List ℕ) → list_all is_octet os ≡ true → list_all is_octet ps ≡ true → Pairwise same_bits os ps → os ≡ ps
octets_again [] [] h k e = refl
octets_again [] (p ∷ ps) h k e = absurd e
octets_again (o ∷ os) [] h k e = absurd e
octets_again (o ∷ os) (p ∷ ps) h k e =
    let h' = and_parts _ _ h in
    let k' = and_parts _ _ k in
    let a : o < 256 = ltb-true _ _ h'.0 in
    let b : p < 256 = ltb-true _ _ k'.0 in
    let q : o ≡ p = binary_equal 8 o p a b e.0 in
    let r = octets_again os ps h'.1 k'.1 e.1 in
    cc

module _ (free : Per.Freedom → Bool) where
  octet_alike : (o p : ℕ) → Alike free (exactly (binary 8 o)) (exactly (binary 8 p)) (same_bits o p)
  octet_alike o p = agree_exactly free (binary 8 o) (binary 8 p) refl

  pub octet_units_alike : (al : Bool) (os ps : List ℕ) → Alike free (Per.counted al (Per.octet_units os)) (Per.counted al (Per.octet_units ps)) (Pairwise same_bits os ps)
  octet_units_alike al os ps = counted_alike free ℕ same_bits (λ o. exactly (binary 8 o)) octet_alike al os ps

  pub counted_octets_alike : (al : Bool) (os ps : List ℕ) → Alike free (Per.counted_octets al os) (Per.counted_octets al ps) (os ≡ ps)
  unfolding Per.counted_octets
  counted_octets_alike al os ps = agree_if free (list_all is_octet os) (list_all is_octet ps) _ _ (λ h k. agree_map free (λ e. octets_again os ps h k e) (octet_units_alike al os ps))

  -- ---- integers
  digits_same : (k j n m : ℕ) → least_octets n ≤ k → least_octets m ≤ j → digits 256 k n ≡ digits 256 j m → n ≡ m
  digits_same k j n m h i e =
      let l : k ≡ j = sym (length-digits 256 k n) ∙ ap length e ∙ length-digits 256 j m in
      let a : n < 256 ^ k = least_hold k n h in
      let b : m < 256 ^ k = least_hold k m (omega arith) in
      digits_equal 256 k n m (lit< tt) a b (e ∙ ap (λ x. digits 256 x m) (sym l))

  complements_same : (k j : ℕ) (v w : ℤ) → signed_octets v ≤ k → signed_octets w ≤ j → complement k v ≡ complement j w → v ≡ w
  complements_same k j v w h i e =
      let l : k ≡ j = sym (length-complement k v) ∙ ap length e ∙ length-complement j w in
      let a = signed_hold k v h in
      let b = signed_hold k w (omega arith) in
      complement_equal k v w a.0 a.1 b.1 (e ∙ ap (λ x. complement x w) (sym l))

  pub semi_alike : (al : Bool) (n m : ℕ) → Alike free (Per.semi_constrained al n) (Per.semi_constrained al m) (n ≡ m)
  unfolding Per.semi_constrained
  semi_alike al n m = agree_varied free (λ k j. agree_if free (leb (least_octets n) k) (leb (least_octets m) j) _ _
      (λ h i. agree_map free (λ e. digits_same k j n m (leb-true _ _ h) (leb-true _ _ i) e) (counted_octets_alike al (digits 256 k n) (digits 256 j m))))

  pub unconstrained_alike : (al : Bool) (v w : ℤ) → Alike free (Per.unconstrained al v) (Per.unconstrained al w) (v ≡ w)
  unfolding Per.unconstrained
  unconstrained_alike al v w = agree_varied free
      (λ k j. agree_if free (leb (signed_octets v) k) (leb (signed_octets w) j) _ _
      (λ h i. agree_map free (λ e. complements_same k j v w (leb-true _ _ h) (leb-true _ _ i) e) (counted_octets_alike al (complement k v) (complement j w))))

  -- a number in as many octets as its length says
  octets_at : (al : Bool) (k n m : ℕ) → n < 256 ^ k → m < 256 ^ k →
      Alike free (Per.at_octet al (exactly (flat_map (binary 8) (digits 256 k n)))) (Per.at_octet al (exactly (flat_map (binary 8) (digits 256 k m)))) (n ≡ m)
  octets_at al k n m h i =
      let a : length (flat_map (binary 8) (digits 256 k n)) ≡ 8 * k = length-octets (digits 256 k n) ∙ ap (λ x. 8 * x) (length-digits 256 k n) in
      let b : length (flat_map (binary 8) (digits 256 k m)) ≡ 8 * k = length-octets (digits 256 k m) ∙ ap (λ x. 8 * x) (length-digits 256 k m) in
      at_octet_alike free al (agree_map free (λ e. digits_equal 256 k n m (lit< tt) h i (bits_of_digits k n m e)) (agree_exactly free _ _ (a ∙ sym b)))

  in_octets_alike : (whole : ℕ → ℕ → Per.BitForm) (al : Bool) (span n m k j : ℕ) →
      ((s x y : ℕ) → Alike free (whole s x) (whole s y) (x ≡ y)) → Alike free (Per.in_octets_of whole al span n k) (Per.in_octets_of whole al span m j) (n ≡ m)
  unfolding Per.in_octets_of
  in_octets_alike whole al span n m k j f = agree_if free (leb (least_octets n) k && leb k (octet_width span)) (leb (least_octets m) j && leb j (octet_width span)) _ _ (λ h i.
      let h' = and_parts _ _ h in
      let i' = and_parts _ _ i in
      let a : least_octets n ≤ k = leb-true _ _ h'.0 in
      let b : k ≤ octet_width span = leb-true _ _ h'.1 in
      let c : least_octets m ≤ j = leb-true _ _ i'.0 in
      let d : j ≤ octet_width span = leb-true _ _ i'.1 in
      agree_map free (λ q. q.1) (agree_both free (f (octet_width span - 1) (k - 1) (j - 1)) (λ e.
      let l : j ≡ k = omega arith in
      subst (λ x. Alike free (Per.at_octet al (exactly (flat_map (binary 8) (digits 256 k n))))
      (Per.at_octet al (exactly (flat_map (binary 8) (digits 256 x m)))) (n ≡ m)) (sym l) (octets_at al k n m (least_hold k n a) (least_hold k m (omega arith))))))

  abbrev by_span : (ℕ → ℕ → Per.BitForm) → Bool → Bool → Bool → Bool → ℕ → ℕ → Per.BitForm
  by_span whole al a b c span n = cond a (exactly (binary (width span) n))
      (cond b (Per.at_octet al (exactly (binary 8 n))) (cond c (Per.at_octet al (exactly (binary 16 n))) (varied Per.longer_number (least_octets n) (λ k. Per.in_octets_of whole al span n k))))

  span_cases : (whole : ℕ → ℕ → Per.BitForm) (al : Bool) (span n m : ℕ) (a b c : Bool) →
      ((s x y : ℕ) → Alike free (whole s x) (whole s y) (x ≡ y)) → (span == 255) ≡ b → ltb span 65536 ≡ c → n ≤ span → m ≤ span →
      Alike free (by_span whole al a b c span n) (by_span whole al a b c span m) (n ≡ m)
  span_cases whole al span n m true b c w e f h k = binary_alike free (width span) n m (span_holds span n h) (span_holds span m k)
  span_cases whole al span n m false true c w e f h k = let s = eqb-true span 255 e in at_octet_alike free al (binary_alike free 8 n m (omega arith) (omega arith))
  span_cases whole al span n m false false true w e f h k = let s = ltb-true span 65536 f in at_octet_alike free al (binary_alike free 16 n m (omega arith) (omega arith))
  span_cases whole al span n m false false false w e f h k = agree_varied free (λ i j. in_octets_alike whole al span n m i j w)

  constrained_in_alike : (most : ℕ) (al : Bool) (span n m : ℕ) → Alike free (Per.constrained_in most al span n) (Per.constrained_in most al span m) (n ≡ m)
  unfolding Per.constrained_in
  constrained_in_alike zero al span n m = agree_refused free _ _
  constrained_in_alike (suc most) al span n m =
      agree_if free (leb n span) (leb m span) _ _
      (λ h k. span_cases (λ s c. Per.constrained_in most al s c) al span n m (not al || ltb span 255) (span == 255) (ltb span 65536)
      (λ s x y. constrained_in_alike most al s x y) refl refl (leb-true _ _ h) (leb-true _ _ k))

  pub constrained_alike : (al : Bool) (span n m : ℕ) → Alike free (Per.constrained al span n) (Per.constrained al span m) (n ≡ m)
  unfolding Per.constrained
  constrained_alike al span n m = constrained_in_alike (suc span) al span n m

  whole_alike : (al : Bool) (low high : Option ℤ) (v w : ℤ) → Alike free (Per.whole_number al low high v) (Per.whole_number al low high w) (v ≡ w)
  unfolding Per.whole_number
  whole_alike al (Some low) (Some high) v w = agree_given free (above low high) (above low high) _ _ (λ s t e f.
      let r : s ≡ t = some_same e f in
      agree_given free (above low v) (above low w) _ _
      (λ n m g h. subst (λ x. Alike free (Per.constrained al s n) (Per.constrained al x m) (v ≡ w)) r
      (agree_map free (λ q. above_equal low v w n g (h ∙ ap Some (sym q))) (constrained_alike al s n m))))
    where
      some_same : {o : Option ℕ} {s t : ℕ} → o ≡ Some s → o ≡ Some t → s ≡ t
      some_same e f = cc
  whole_alike al (Some low) None v w = agree_given free (above low v) (above low w) _ _ (λ n m g h. agree_map free (λ q. above_equal low v w n g (h ∙ ap Some (sym q))) (semi_alike al n m))
  whole_alike al None (Some high) v w = agree_if free (is_at_most v high) (is_at_most w high) _ _ (λ h k. unconstrained_alike al v w)
  whole_alike al None None v w = unconstrained_alike al v w

  -- inside the root, with or without an extension bit, and outside it
  abbrev inside : Bool → Per.BitForm → Per.BitForm
  inside b x = only_if b (both (exactly (false ∷ [])) x)

  abbrev outside : Per.BitForm → Per.BitForm
  outside x = both (exactly (true ∷ [])) x

  extension_bit_cases : (s t b c : Bool) (x y u v : Per.BitForm) (P : Type 0) → (b ≡ true → c ≡ true → Alike free x y P) →
      Alike free u v P → Alike free (cond s (outside u) (inside b x)) (cond t (outside v) (inside c y)) P
  extension_bit_cases true true b c x y u v P h k = agree_map free (λ q. q.1) (agree_both free (agree_exactly free _ _ refl) (λ e. k))
  extension_bit_cases true false b c x y u v P h k = agree_if_right free c {x = outside u} {y = both (exactly (false ∷ [])) y} (λ j. agree_both_apart free (bits_apart free))
  extension_bit_cases false true b c x y u v P h k = agree_if_left free b {x = both (exactly (false ∷ [])) x} {y = outside v} (λ i. agree_both_apart free (bits_apart' free))
  extension_bit_cases false false b c x y u v P h k = agree_if free b c _ _ (λ i j. agree_map free (λ q. q.1) (agree_both free (agree_exactly free _ _ refl) (λ e. h i j)))

  pub with_extension_bit_alike : (e b c : Bool) (x y u v : Per.BitForm) (P : Type 0) → (b ≡ true → c ≡ true → Alike free x y P) →
      Alike free u v P → Alike free (Per.with_extension_bit e b x u) (Per.with_extension_bit e c y v) P
  unfolding Per.with_extension_bit
  with_extension_bit_alike false b c x y u v P h k = agree_if free b c x y h
  with_extension_bit_alike true b c x y u v P h k = agree_varied free (λ s t. extension_bit_cases s t b c x y u v P h k)

  pub integer_alike : (al : Bool) (b : Bounds) (held : Range) (v w : ℤ) → Alike free (Per.integer_form al b held v) (Per.integer_form al b held w) (v ≡ w)
  unfolding Per.integer_form
  integer_alike al b held v w = agree_if free (is_within held v && (not (is_bounded b) || fits_128 v))
      (is_within held w && (not (is_bounded b) || fits_128 w)) _ _
      (λ h k. with_extension_bit_alike b.extensible (is_within b.range v) (is_within b.range w) _ _ _ _ (v ≡ w) (λ i j. whole_alike al b.range.low b.range.high v w) (unconstrained_alike al v w))
