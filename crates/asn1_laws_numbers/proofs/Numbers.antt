-- Numbers as positional sums.
use Rattle.std.specs.Prelude.{pos, negsuc}
use Rattle.std.proofs.Common.{◌≡◌, ℕ, zero, suc, ◌+◌, ◌-◌, ◌*◌, ◌/◌, ◌%◌, ◌^◌, ◌<◌, ◌≤◌, ◌==◌, ltb, lit<, Bool, true, List, [], ◌∷◌, length, take, drop, map, refl, ap, ◌∙◌, arith}
use Rattle.std.proofs.lemmas.Bool.{ltb-true, lt-ltb, and_parts, and_from}
use Rattle.std.proofs.lemmas.Nat.{mod_below}
use Rattle.std.proofs.Math.Nat.{mod-eq_of_lt, pow-suc}
use Rattle.asn1_model.specs.Numbers.{digits, places, width, octet_width, least_octets, signed_octets, complement, binary, packed, octet_bits}
use Rattle.asn1_model.specs.Strings.{is_octet}
use Rattle.std.specs.List.{list_all}
use Rattle.asn1_laws_values.proofs.Places.{places_hold, places_fewest}
use Rattle.asn1_laws_values.proofs.Numbers.{number_of_digits, length-digits, length-complement, least_hold, signed_hold, octets_are_bits}
use Rattle.asn1_laws_values.proofs.Octets.{packed_back, packed_octets}
use Rattle.asn1_laws_fronts.proofs.PerNumbers.{binary_equal}
use Rattle.asn1_laws_fronts.proofs.Complete.{bits_length}
use Rattle.std.specs.Int.Digits.{number_from_digits_after}

digits_small : (base w n : ℕ) → 0 < base → list_all (λ d. ltb d base) (digits base w n) ≡ true
digits_small base zero n h = refl
digits_small base (suc w) n h = and_from _ _ (lt-ltb _ _ (mod_below (n / base ^ w) base h)) (digits_small base w n h)

pub digits_sum : (base w n : ℕ) → 0 < base → n < base ^ w → (number_from_digits_after base 0 (digits base w n) ≡ n)
    × (length (digits base w n) ≡ w) × (list_all (λ d. ltb d base) (digits base w n) ≡ true)
digits_sum base w n h k =
    let a = number_of_digits base w 0 n h in
    let b : n % base ^ w ≡ n = mod-eq_of_lt k in
    (omega arith, length-digits base w n, digits_small base w n h)

pub fewest_digits : (base n : ℕ) → 1 < base → (n < base ^ places base n) × ((k : ℕ) → n < base ^ k → places base n ≤ k)
fewest_digits base n h = (places_hold n base n h (omega arith), λ k l. places_fewest n base n k h l)

half : (k : ℕ) → 0 < k → 256 ^ k ≡ 2 * 2 ^ (8 * k - 1)
half k h =
    let s : 8 * k ≡ suc (8 * k - 1) = omega arith in
    octets_are_bits k ∙ ap (λ x. 2 ^ x) s ∙ pow-suc 2 (8 * k - 1) ∙ omega arith

pub complement_sum : (k n : ℕ) → 0 < k → n < 2 ^ (8 * k - 1) → (number_from_digits_after 256 0 (complement k (pos n)) ≡ n)
    × (number_from_digits_after 256 0 (complement k (negsuc n)) + (n + 1) ≡ 256 ^ k) × (length (complement k (pos n)) ≡ k) × (length (complement k (negsuc n)) ≡ k)
complement_sum k n h l =
    let e = half k h in
    let a = digits_sum 256 k n (lit< tt) (omega arith) in
    let b = digits_sum 256 k (256 ^ k - 1 - n) (lit< tt) (omega arith) in
    let c = b.0 in
    (a.0, omega arith, length-complement k (pos n), length-complement k (negsuc n))

few_octets : (n k : ℕ) → 0 < k → n < 256 ^ k → least_octets n ≤ k
few_octets n k h l = let a : octet_width n ≤ k = places_fewest n 256 n k (lit< tt) l in omega arith

few_signed : (n k : ℕ) → 0 < k → n < 2 ^ (8 * k - 1) → width n / 8 + 1 ≤ k
few_signed n k h l = let a : width n ≤ 8 * k - 1 = places_fewest n 2 n (8 * k - 1) (lit< tt) l in omega arith

pub fewest_octets : (n k : ℕ) → 0 < k → ((least_octets n ≤ k → n < 256 ^ k) × (n < 256 ^ k → least_octets n ≤ k))
    × ((signed_octets (pos n) ≤ k → n < 2 ^ (8 * k - 1)) × (n < 2 ^ (8 * k - 1) → signed_octets (pos n) ≤ k))
    × ((signed_octets (negsuc n) ≤ k → n < 2 ^ (8 * k - 1)) × (n < 2 ^ (8 * k - 1) → signed_octets (negsuc n) ≤ k))
fewest_octets n k h = ((λ l. least_hold k n l, λ l. few_octets n k h l), (λ l. (signed_hold k (pos n) l).1, λ l. few_signed n k h l), (λ l. (signed_hold k (negsuc n) l).1, λ l. few_signed n k h l))

pub bits_are_digits : (w n : ℕ) → binary w n ≡ map (λ d. d == 1) (digits 2 w n)
bits_are_digits zero n = refl
bits_are_digits (suc w) n = ap (λ l. (n / 2 ^ w % 2 == 1) ∷ l) (bits_are_digits w n)

-- ---- octets and bits
bits_equal : (os ps : List ℕ) → list_all is_octet os ≡ true → list_all is_octet ps ≡ true → octet_bits os ≡ octet_bits ps → os ≡ ps
bits_equal [] [] h i e = refl
bits_equal [] (p ∷ ps) h i e = cc
bits_equal (o ∷ os) [] h i e = cc
bits_equal (o ∷ os) (p ∷ ps) h i e =
    let h' = and_parts _ _ h in
    let i' = and_parts _ _ i in
    let x : o ≡ p = binary_equal 8 o p (ltb-true _ _ h'.0) (ltb-true _ _ i'.0) (ap (take 8) e) in
    let y = bits_equal os ps h'.1 i'.1 (ap (drop 8) e) in
    cc

packed_bits : (os : List ℕ) → list_all is_octet os ≡ true → packed (octet_bits os) ≡ os
packed_bits os h =
    let l = bits_length os in
    bits_equal (packed (octet_bits os)) os (packed_octets (length os) (octet_bits os) l) h (packed_back (length os) (octet_bits os) l)

packed_whole : (k : ℕ) (bs : List Bool) → length bs ≡ 8 * k → (octet_bits (packed bs) ≡ bs) × (length (packed bs) ≡ k) × (list_all is_octet (packed bs) ≡ true)
packed_whole k bs h =
    let b = packed_back k bs h in
    let l = bits_length (packed bs) in
    let m : length (octet_bits (packed bs)) ≡ length bs = ap length b in
    (b, omega arith, packed_octets k bs h)

pub octets_and_bits : ((os : List ℕ) → list_all is_octet os ≡ true → packed (octet_bits os) ≡ os)
    × ((k : ℕ) (bs : List Bool) → length bs ≡ 8 * k → (octet_bits (packed bs) ≡ bs) × (length (packed bs) ≡ k) × (list_all is_octet (packed bs) ≡ true))
octets_and_bits = (packed_bits, packed_whole)
