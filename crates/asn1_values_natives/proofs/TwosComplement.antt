-- Two's complement, and its fewest octets.
use Rattle.std.proofs.Common.{◌≡◌, ℕ, zero, suc, ◌+◌, ◌-◌, ◌*◌, ◌/◌, ◌%◌, ◌^◌, ◌<◌, ◌≤◌, ◌==◌, Bool, true, false, ◌&&◌}
use Rattle.std.proofs.Common.{◌||◌, List, [], ◌∷◌, length, map, ℤ, pos, negsuc, ◌⊎◌, inl, inr, leb, ltb, nat_lt, get_or}
use Rattle.std.proofs.Common.{Fits, w8, max, subst, refl, ap, sym, ◌∙◌, arith}
use Rattle.std.proofs.Math.Nat.{pow-suc, pow-le-pow_right, mul-le-mul_right}
use Rattle.std.proofs.lemmas.Bool.{cases_lt}
use Rattle.std.proofs.lemmas.Bool.Decides.{nat_tests}
use Rattle.std.proofs.lemmas.Nat.{mul-add-lt, pow-add, div_below}
use Rattle.asn1_model.specs.Numbers.{digits, complement, signed_octets, width, octet_width}
use Rattle.asn1_values_natives.specs.Octets.{unsigned_number, signed_number, is_padded, sign_free, signed_by, plain, is_leading, is_negative, signed_octets_of, unsigned_octets_of}
use Rattle.asn1_values_natives.proofs.OctetLaws.{AreOctets, pow_pos256, unsigned-lt, unsigned-turned, signed-low}
use Rattle.asn1_values_natives.proofs.OctetLaws.{signed-high, sign_free-twice, sign_free-false, signed-padded}
use Rattle.asn1_values_natives.proofs.OctetLaws.{octets-sign_free, length-sign_free, digits-unsigned, digits-turned}
use Rattle.asn1_values_natives.proofs.OctetLaws.{length-digits, octets-digits, unsigned-digits}
use Rattle.asn1_values_natives.proofs.Widths.{pow256, width-bits, octet_width-width, signed_octets-plain, signed_octets-le, signed_octets-above}

-- half of it
pub pow128 : (k : ℕ) → 128 * 256 ^ k ≡ 2 ^ (8 * k + 7)
pow128 k = let e = pow-add 2 (8 * k) 7 in let f = pow256 k in omega arith

-- ---- the number of octets, without the sign

pub plain-small : (o : ℕ) (os : List ℕ) → AreOctets (o ∷ os) → plain (signed_number (o ∷ os)) < 128 * 256 ^ length os
plain-small o os h = at_cases (cases_lt o 128)
  where
    at_cases : (o < 128) ⊎ (128 ≤ o) → plain (signed_number (o ∷ os)) < 128 * 256 ^ length os
    at_cases (inl c) =
        let m : o * 256 ^ length os + unsigned_number os < 256 ^ length os * 128 = mul-add-lt o (256 ^ length os) (unsigned_number os) 128 c (unsigned-lt os h.1) in
        rw (signed-low o os c) (omega arith)
    at_cases (inr c) =
        let l = length-sign_free true os in
        let u : unsigned_number (map (sign_free true) os) < 256 ^ length (map (sign_free true) os) = unsigned-lt (map (sign_free true) os) (octets-sign_free true os h.1) in
        let p : 255 - o < 128 = omega arith in
        let m : (255 - o) * 256 ^ length (map (sign_free true) os) + unsigned_number (map (sign_free true) os) <
        256 ^ length (map (sign_free true) os) * 128 = mul-add-lt (255 - o) (256 ^ length (map (sign_free true) os)) (unsigned_number (map (sign_free true) os)) 128 p u in
        let q = rw l at m in
        rw (signed-high o os c h, l) (omega (arith, q))

-- no octets are shorter than the fewest octets of their number
pub signed_octets-least : (o : ℕ) (os : List ℕ) → AreOctets (o ∷ os) → signed_octets (signed_number (o ∷ os)) ≤ length (o ∷ os)
signed_octets-least o os h =
    let p = plain-small o os h in
    let q : plain (signed_number (o ∷ os)) < 2 ^ (8 * length os + 7) = rw (pow128 (length os)) at p in
    let r = signed_octets-le (signed_number (o ∷ os)) (length os) q in
    omega arith

leading : (a p b u : ℕ) → (1 ≤ a) ⊎ (128 ≤ b) → 128 * p ≤ a * (p * 256) + (b * p + u)
leading a p b u (inl h) = let m : 1 * (p * 256) ≤ a * (p * 256) = mul-le-mul_right (p * 256) h in omega arith
leading a p b u (inr h) = let m : 128 * p ≤ b * p = mul-le-mul_right p h in omega arith

bare_low : (a b : ℕ) → a < 128 → ((a == 0) && ltb b 128) || ((a == 255) && leb 128 b) ≡ false → (1 ≤ a) ⊎ (128 ≤ b)
bare_low a b h e = grind (arith, nat_tests)

bare_high : (a b : ℕ) → 128 ≤ a → a < 256 → ((a == 0) && ltb b 128) || ((a == 255) && leb 128 b) ≡ false → (1 ≤ 255 - a) ⊎ (128 ≤ 255 - b)
bare_high a b h l e = grind (arith, nat_tests)

-- octets without padding are the fewest
pub plain-large : (a b : ℕ) (os : List ℕ) → AreOctets (a ∷ b ∷ os) → is_padded (a ∷ b ∷ os) ≡ false → 128 * 256 ^ length os ≤ plain (signed_number (a ∷ b ∷ os))
plain-large a b os h e = at_cases (cases_lt a 128)
  where
    at_cases : (a < 128) ⊎ (128 ≤ a) → 128 * 256 ^ length os ≤ plain (signed_number (a ∷ b ∷ os))
    at_cases (inl c) = rw (signed-low a (b ∷ os) c, pow-suc 256 (length os)) (leading a (256 ^ length os) b (unsigned_number os) (bare_low a b c e))
    at_cases (inr c) =
        rw (signed-high a (b ∷ os) c h, length-sign_free true os, pow-suc 256 (length os))
        (leading (255 - a) (256 ^ length os) (255 - b) (unsigned_number (map (sign_free true) os)) (bare_high a b c h.0 e))

pub signed_octets-fewest : (o : ℕ) (os : List ℕ) → AreOctets (o ∷ os) → is_padded (o ∷ os) ≡ false → signed_octets (signed_number (o ∷ os)) ≡ length (o ∷ os)
signed_octets-fewest o [] h e = let l = signed_octets-least o [] h in let m = signed_octets-plain (signed_number (o ∷ [])) in omega arith
signed_octets-fewest a (b ∷ os) h e =
    let l = signed_octets-least a (b ∷ os) h in
    let p = plain-large a b os h e in
    let q : 2 ^ (8 * length os + 7) ≤ plain (signed_number (a ∷ b ∷ os)) = rw (pow128 (length os)) at p in
    let r = signed_octets-above (signed_number (a ∷ b ∷ os)) (length os) q in
    omega arith

-- ---- there and back

pub complement-signed : (o : ℕ) (os : List ℕ) → AreOctets (o ∷ os) → complement (length (o ∷ os)) (signed_number (o ∷ os)) ≡ o ∷ os
complement-signed o os h = at_cases (cases_lt o 128)
  where
    at_cases : (o < 128) ⊎ (128 ≤ o) → complement (length (o ∷ os)) (signed_number (o ∷ os)) ≡ o ∷ os
    at_cases (inl c) = rw (signed-low o os c) (digits-unsigned (o ∷ os) h)
    at_cases (inr c) =
        let t = unsigned-turned (o ∷ os) h in
        let u : 256 ^ length (o ∷ os) - 1 - unsigned_number (map (sign_free true) (o ∷ os)) ≡ unsigned_number (o ∷ os) = omega arith in
        rw (signed-high o os c h, u) (digits-unsigned (o ∷ os) h)

-- a number of k + 1 octets begins with its sign
top_low : (k m : ℕ) → m < 128 * 256 ^ k → m / 256 ^ k % 256 < 128
top_low k m h = let d : m / 256 ^ k < 128 = div_below m (256 ^ k) 128 (pow_pos256 k) h in omega arith

within : (k m : ℕ) → m < 128 * 256 ^ k → m < 256 ^ suc k
within k m h = rw (pow-suc 256 k) (omega arith)

pub signed-complement : (k : ℕ) (z : ℤ) → plain z < 128 * 256 ^ k → signed_number (complement (suc k) z) ≡ z
signed-complement k (pos m) h =
    signed-low (m / 256 ^ k % 256) (digits 256 k m) (top_low k m h) ∙ ap pos (unsigned-digits (suc k) m (within k m h))
signed-complement k (negsuc m) h =
    let o = octets-digits (suc k) m in
    let d : 128 ≤ 255 - m / 256 ^ k % 256 = let t = top_low k m h in omega arith in
    ap signed_number (sym (digits-turned (suc k) m (within k m h)))
    ∙ signed-high (255 - m / 256 ^ k % 256) (map (sign_free true) (digits 256 k m)) d (octets-sign_free true (digits 256 (suc k) m) o)
    ∙ ap (λ l. negsuc (unsigned_number l)) (sign_free-twice (digits 256 (suc k) m) o)
    ∙ ap negsuc (unsigned-digits (suc k) m (within k m h))

-- as many octets as a number needs
pub plain-fits : (z : ℤ) (k : ℕ) → signed_octets z ≤ k + 1 → plain z < 128 * 256 ^ k
plain-fits z k h = let e = pow128 k in let p = signed_octets-above z k in grind arith

-- octets as a sign and a magnitude
pub signed-parts : (os : List ℕ) → AreOctets os → signed_number os ≡ signed_by (is_negative os) (unsigned_number (map (sign_free (is_negative os)) os))
signed-parts [] h = refl
signed-parts (o ∷ os) h = at_cases (cases_lt o 128)
  where
    P : Bool → Type 0
    P b = signed_number (o ∷ os) ≡ signed_by b (unsigned_number (map (sign_free b) (o ∷ os)))

    at_cases : (o < 128) ⊎ (128 ≤ o) → signed_number (o ∷ os) ≡ signed_by (leb 128 o) (unsigned_number (map (sign_free (leb 128 o)) (o ∷ os)))
    at_cases (inl c) =
        let e : leb 128 o ≡ false = grind (arith, nat_tests) in
        subst P (sym e) (signed-low o os c ∙ ap (λ l. pos (unsigned_number l)) (sym (sign_free-false (o ∷ os))))
    at_cases (inr c) = let e : leb 128 o ≡ true = grind (arith, nat_tests) in subst P (sym e) (signed-high o os c h)

pub plain-signed_by : (b : Bool) (m : ℕ) → plain (signed_by b m) ≡ m
plain-signed_by true m = refl
plain-signed_by false m = refl

pub octets-all : (os : List ℕ) → ((i : ℕ) → Fits w8 (get_or os i 0)) → AreOctets os
octets-all [] h = tt
octets-all (o ∷ os) h = ((h 0).fits, octets-all os (λ i. h (suc i)))

-- the number by the octets of its magnitude
pub signed-read : (os rest : List ℕ) (b : Bool) → ((i : ℕ) → Fits w8 (get_or os i 0)) → b ≡ is_negative os →
    unsigned_number (map (sign_free b) rest) ≡ unsigned_number (map (sign_free b) os) → signed_by b (unsigned_number (map (sign_free b) rest)) ≡ signed_number os
signed-read os rest b h n e = ap (signed_by b) e ∙ ap (λ c. signed_by c (unsigned_number (map (sign_free c) os))) n ∙ sym (signed-parts os (octets-all os h))

pub plain-read : (os rest : List ℕ) (b : Bool) → ((i : ℕ) → Fits w8 (get_or os i 0)) → b ≡ is_negative os →
    unsigned_number (map (sign_free b) rest) ≡ unsigned_number (map (sign_free b) os) → unsigned_number (map (sign_free b) rest) ≡ plain (signed_number os)
plain-read os rest b h n e = sym (plain-signed_by b (unsigned_number (map (sign_free b) rest))) ∙ ap plain (signed-read os rest b h n e)

pub under : (n : ℕ) → n < 2 ^ 128 → true ≡ nat_lt n (2 ^ 128)
under n h = grind (arith, nat_tests)

-- octets that begin with more than the sign encode a large number
pub unsigned-large : (b : Bool) (os : List ℕ) (k : ℕ) → is_leading b os ≡ false → k < length os → 256 ^ k ≤ unsigned_number (map (sign_free b) os)
unsigned-large b [] k e h = absurd (omega arith)
unsigned-large b (o ∷ os) k e h =
    let n : 1 ≤ sign_free b o = grind (arith, nat_tests) in
    let m : 1 * 256 ^ length os ≤ sign_free b o * 256 ^ length os = mul-le-mul_right (256 ^ length os) n in
    let p : 256 ^ k ≤ 256 ^ length os = pow-le-pow_right (omega arith) {i = k} {j = length os} (omega arith) in
    rw (length-sign_free b os) (omega arith)

pub over : (b : Bool) (os : List ℕ) (n : ℕ) → is_leading b os ≡ false → 16 < length os → unsigned_number (map (sign_free b) os) ≡ n → false ≡ nat_lt n (2 ^ 128)
over b os n e h f = let p : 256 ^ 16 ≤ unsigned_number (map (sign_free b) os) = unsigned-large b os 16 e h in let q : 2 ^ 128 ≤ n = omega arith in grind (arith, nat_tests)

-- ---- the octets that are written

width-room : (m k : ℕ) → k ≡ width m / 8 + 1 → m < 256 ^ k
width-room m k e =
    let b : m < 2 ^ width m = (width-bits m).below in
    let p : 2 ^ width m ≤ 2 ^ (8 * k) = pow-le-pow_right (omega arith) {i = width m} {j = 8 * k} (omega arith) in
    let q = pow256 k in
    omega arith

pub written-signed : (b : Bool) (m k : ℕ) → k ≡ width m / 8 + 1 → map (sign_free b) (digits 256 k m) ≡ signed_octets_of (signed_by b m)
written-signed true m k e = digits-turned k m (width-room m k e) ∙ ap (λ x. digits 256 x (256 ^ x - 1 - m)) e
written-signed false m k e = sign_free-false (digits 256 k m) ∙ ap (λ x. digits 256 x m) e

pub written-unsigned : (m k : ℕ) → k ≡ max ((width m + 7) / 8) 1 → map (sign_free false) (digits 256 k m) ≡ unsigned_octets_of (pos m)
written-unsigned m k e = let w = octet_width-width m in let f : k ≡ max 1 (octet_width m) = omega arith in sign_free-false (digits 256 k m) ∙ ap (λ x. digits 256 x m) f

-- ---- the fewest octets

pub signed-back : (z : ℤ) → signed_number (signed_octets_of z) ≡ z
signed-back z = from_count (signed_octets z) refl
  where
    from_count : (k : ℕ) → k ≡ signed_octets z → signed_number (complement (signed_octets z) z) ≡ z
    from_count zero e = absurd (let p = signed_octets-plain z in omega arith)
    from_count (suc k) e = ap (λ x. signed_number (complement x z)) (sym e) ∙ signed-complement k z (plain-fits z k (omega arith))

pub octets-complement : (k : ℕ) (z : ℤ) → AreOctets (complement k z)
octets-complement k (pos m) = octets-digits k m
octets-complement k (negsuc m) = octets-digits k (256 ^ k - 1 - m)

pub length-complement : (k : ℕ) (z : ℤ) → length (complement k z) ≡ k
length-complement k (pos m) = length-digits k m
length-complement k (negsuc m) = length-digits k (256 ^ k - 1 - m)

-- octets without padding are those that are written
pub written-kept : (os : List ℕ) → AreOctets os → is_padded os ≡ false → 0 < length os → os ≡ signed_octets_of (signed_number os)
written-kept [] h e n = absurd (omega arith)
written-kept (o ∷ os) h e n = sym (complement-signed o os h) ∙ ap (λ k. complement k (signed_number (o ∷ os))) (sym (signed_octets-fewest o os h e))

-- padding makes a list longer than needed
padded-longer : (os : List ℕ) → AreOctets os → signed_octets (signed_number os) ≡ length os → is_padded os ≡ true → is_padded os ≡ false
padded-longer [] h l e = refl
padded-longer (a ∷ []) h l e = refl
padded-longer (a ∷ o ∷ os) h l e =
    let s = signed-padded a (o ∷ os) h e in
    let m = signed_octets-least o os h.1 in
    let t : signed_octets (signed_number (o ∷ os)) ≡ signed_octets (signed_number (a ∷ o ∷ os)) = ap signed_octets s in
    absurd (omega arith)

pub written-fewest : (z : ℤ) → is_padded (signed_octets_of z) ≡ false
written-fewest z = at_test (is_padded (signed_octets_of z)) refl
  where
    at_test : (b : Bool) → is_padded (signed_octets_of z) ≡ b → is_padded (signed_octets_of z) ≡ false
    at_test false e = e
    at_test true e = padded-longer (signed_octets_of z) (octets-complement (signed_octets z) z) (ap signed_octets (signed-back z) ∙ sym (length-complement (signed_octets z) z)) e

pub complement-back : (os : List ℕ) → AreOctets os → 0 < length os → complement (length os) (signed_number os) ≡ os
complement-back [] h n = refl
complement-back (o ∷ os) h n = complement-signed o os h

pub written-least : (os : List ℕ) → AreOctets os → 0 < length os → length (signed_octets_of (signed_number os)) ≤ length os
written-least [] h n = absurd (omega arith)
written-least (o ∷ os) h n = let l = length-complement (signed_octets (signed_number (o ∷ os))) (signed_number (o ∷ os)) in let m = signed_octets-least o os h in omega arith
