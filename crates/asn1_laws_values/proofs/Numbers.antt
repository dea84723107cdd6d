-- Digits as positional sums, and the octets in which numbers fit.
use Rattle.std.specs.Prelude.{ℤ, pos, negsuc, ◌-ℤ◌, None}
use Rattle.std.proofs.Common.{◌≡◌, ℕ, zero, suc, ◌+◌, ◌-◌, ◌*◌, ◌/◌, ◌%◌, ◌^◌, ◌<◌, ◌≤◌, lit<, true, false, length, Some, refl, ap, sym, ◌∙◌, arith}
use Rattle.std.proofs.lemmas.Int.{ints}
use Rattle.std.proofs.Math.Nat.{mod-eq_of_lt, pow-suc, pow-zero, pow-le-pow_right, mul_comm, one-le-pow}
use Rattle.std.proofs.Math.IntN.{◌+ℤ◌, -ℤ-+ℤ_cancel}
use Rattle.std.proofs.Math.Arith.{mod-mul}
use Rattle.asn1_model.specs.Numbers.{digits, width, octet_width, least_octets, signed_octets, complement, above, is_at_most}
use Rattle.asn1_laws_values.proofs.Places.{places_hold}
use Rattle.std.specs.Int.Digits.{number_from_digits_after}

-- ---- digits are a positional sum
pub number_of_digits : (base w m n : ℕ) → 0 < base → number_from_digits_after base m (digits base w n) ≡ m * base ^ w + n % base ^ w
number_of_digits base zero m n h = rw pow-zero (omega arith)
number_of_digits base (suc w) m n h =
    let i = number_of_digits base w (m * base + n / base ^ w % base) n h in
    let p : 0 < base ^ w = one-le-pow w base h in
    let q : n % (base * base ^ w) ≡ (n / base ^ w % base) * base ^ w + n % base ^ w = mod-mul n h p in
    let e : base ^ suc w ≡ base * base ^ w = pow-suc base w ∙ mul_comm (base ^ w) base in
    rw e (i ∙ omega (arith, q))

pub length-digits : (base w n : ℕ) → length (digits base w n) ≡ w
length-digits base zero n = refl
length-digits base (suc w) n = ap suc (length-digits base w n)

pub digits_equal : (base w n m : ℕ) → 0 < base → n < base ^ w → m < base ^ w → digits base w n ≡ digits base w m → n ≡ m
digits_equal base w n m h k l e =
    let a = number_of_digits base w 0 n h in
    let b = number_of_digits base w 0 m h in
    let c : number_from_digits_after base 0 (digits base w n) ≡ number_from_digits_after base 0 (digits base w m) = ap (number_from_digits_after base 0) e in
    let d : n % base ^ w ≡ n = mod-eq_of_lt k in
    let f : m % base ^ w ≡ m = mod-eq_of_lt l in
    omega arith

-- ---- the octets that hold a number
pub octets_hold : (k n : ℕ) → octet_width n ≤ k → n < 256 ^ k
octets_hold k n h =
    let a : n < 256 ^ octet_width n = places_hold n 256 n (lit< tt) (omega arith) in
    let b : 256 ^ octet_width n ≤ 256 ^ k = pow-le-pow_right (lit< tt) h in
    omega arith

pub least_hold : (k n : ℕ) → least_octets n ≤ k → n < 256 ^ k
least_hold k n h = octets_hold k n (omega arith)

pub octets_are_bits : (k : ℕ) → 256 ^ k ≡ 2 ^ (8 * k)
octets_are_bits zero = refl
octets_are_bits (suc k) =
    let i = octets_are_bits k in
    let s : 8 * suc k ≡ suc (suc (suc (suc (suc (suc (suc (suc (8 * k)))))))) = omega arith in
    rw (pow-suc, s, pow-suc, pow-suc, pow-suc, pow-suc, pow-suc, pow-suc, pow-suc, pow-suc) (omega arith)

-- integers that a number of octets of two's complement hold
abbrev pub FitsIn : ℕ → ℤ → Type 0
FitsIn k (pos m) = m < 2 ^ (8 * k - 1)
FitsIn k (negsuc m) = m < 2 ^ (8 * k - 1)

few_bits : (k m : ℕ) → width m / 8 + 1 ≤ k → m < 2 ^ (8 * k - 1)
few_bits k m h =
    let a : m < 2 ^ width m = places_hold m 2 m (lit< tt) (omega arith) in
    let b : 2 ^ width m ≤ 2 ^ (8 * k - 1) = pow-le-pow_right (lit< tt) (omega arith) in
    omega arith

pub signed_hold : (k : ℕ) (v : ℤ) → signed_octets v ≤ k → (0 < k) × FitsIn k v
signed_hold k (pos m) h = (omega arith, few_bits k m h)
signed_hold k (negsuc m) h = (omega arith, few_bits k m h)

half_octets : (k : ℕ) → 0 < k → 256 ^ k ≡ 2 * 2 ^ (8 * k - 1)
half_octets k h =
    let s : 8 * k ≡ suc (8 * k - 1) = omega arith in
    octets_are_bits k ∙ ap (λ x. 2 ^ x) s ∙ pow-suc 2 (8 * k - 1) ∙ omega arith

pub length-complement : (k : ℕ) (v : ℤ) → length (complement k v) ≡ k
length-complement k (pos m) = length-digits 256 k m
length-complement k (negsuc m) = length-digits 256 k _

pub complement_equal : (k : ℕ) (v w : ℤ) → 0 < k → FitsIn k v → FitsIn k w → complement k v ≡ complement k w → v ≡ w
complement_equal k (pos m) (pos n) h i j e = let b = half_octets k h in ap pos (digits_equal 256 k m n (lit< tt) (omega arith) (omega arith) e)
complement_equal k (pos m) (negsuc n) h i j e =
    let b = half_octets k h in
    let q : m ≡ 256 ^ k - 1 - n = digits_equal 256 k m (256 ^ k - 1 - n) (lit< tt) (omega arith) (omega arith) e in
    absurd (omega arith)
complement_equal k (negsuc m) (pos n) h i j e =
    let b = half_octets k h in
    let q : 256 ^ k - 1 - m ≡ n = digits_equal 256 k (256 ^ k - 1 - m) n (lit< tt) (omega arith) (omega arith) e in
    absurd (omega arith)
complement_equal k (negsuc m) (negsuc n) h i j e =
    let b = half_octets k h in
    let q : 256 ^ k - 1 - m ≡ 256 ^ k - 1 - n = digits_equal 256 k (256 ^ k - 1 - m) (256 ^ k - 1 - n) (lit< tt) (omega arith) (omega arith) e in
    ap negsuc (omega arith)

-- ---- integers above a bound
natural_some : (z : ℤ) (d : ℕ) → elim z [ pos n ↦ Some n | negsuc n ↦ None ] ≡ Some d → z ≡ pos d
natural_some (pos n) d e = cc
natural_some (negsuc n) d e = cc

pub above_equal : (low v w : ℤ) (d : ℕ) → above low v ≡ Some d → above low w ≡ Some d → v ≡ w
above_equal low v w d e f =
    let a = natural_some (v -ℤ low) d e in
    let b = natural_some (w -ℤ low) d f in
    sym (-ℤ-+ℤ_cancel v low) ∙ ap (λ x. x +ℤ low) (a ∙ sym b) ∙ -ℤ-+ℤ_cancel w low

natural_test : (z : ℤ) → elim z [ pos n ↦ true | negsuc n ↦ false ] ≡ true → (n : ℕ) × (z ≡ pos n)
natural_test (pos n) e = (n, refl)
natural_test (negsuc n) e = cc

-- the order of integers, as that of natural numbers
pub at_most_pos : (n m : ℕ) → is_at_most (pos n) (pos m) ≡ true → n ≤ m
at_most_pos n m e = let q = natural_test (pos m -ℤ pos n) e in let f = q.1 in omega (arith, ints)

pub at_most_negsuc : (n m : ℕ) → is_at_most (negsuc n) (negsuc m) ≡ true → m ≤ n
at_most_negsuc n m e = let q = natural_test (negsuc m -ℤ negsuc n) e in let f = q.1 in omega (arith, ints)

pub not_below : (n m : ℕ) → is_at_most (pos n) (negsuc m) ≡ true → ⊥
not_below n m e = let q = natural_test (negsuc m -ℤ pos n) e in let f = q.1 in omega (arith, ints)
