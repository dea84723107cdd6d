-- What is known of the octets that an `Integer` keeps.
use Rattle.std.proofs.Common.{◌≡◌, ℕ, ◌+◌, ◌*◌, ◌/◌, ◌^◌, ◌<◌, ◌≤◌, ◌==◌, Bool, true, false, cond, nat_lt, refl, List, [], ◌∷◌, length, map, max, ℤ, pos, ◌⊎◌, inl, inr, subst, ap, sym, ◌∙◌, arith}
use Rattle.std.proofs.lemmas.Bool.{cases_lt}
use Rattle.std.proofs.lemmas.Bool.Decides.{nat_tests}
use Rattle.std.proofs.Math.Nat.{pow-suc, mul-le-mul_right}
use Rattle.asn1_model.specs.Numbers.{digits, width, signed_octets, octet_width, least_octets}
use Rattle.asn1_values_natives.specs.Octets.{is_below_zero, is_negative, signed_from_plain, unsigned_number}
use Rattle.asn1_values_natives.specs.Octets.{signed_number, signed_by, sign_free, plain, is_padded, plain_octets}
use Rattle.asn1_values_natives.specs.Octets.{signed_octets_of, unsigned_octets_of}
use Rattle.asn1_values_integers.specs.Kinds.{AreFewest}
use Rattle.asn1_values_natives.proofs.OctetLaws.{AreOctets, sign_free-false, unsigned-lt, signed-low, signed-high, digits-unsigned}
use Rattle.asn1_values_natives.proofs.Widths.{Octets, octets-same, octet_width-octets, bits-same, width-bits}
use Rattle.asn1_values_natives.proofs.TwosComplement.{signed-parts, written-kept, written-signed, written-fewest, signed-back, plain-signed_by, octets-complement, plain-small}

-- ---- what is kept

width-128 : (m : ℕ) → 2 ^ 127 ≤ m → m < 2 ^ 128 → 17 ≡ width m / 8 + 1
width-128 m l h = let s : 128 ≡ width m = bits-same m 128 (width m) (record { below = h; above = λ _. omega arith }) (width-bits m) in omega arith

pub short-written : (b : Bool) (m : ℕ) (os : List ℕ) → 2 ^ 127 ≤ m → m < 2 ^ 128 → os ≡ map (sign_free b) (digits 256 17 m) → os ≡ signed_octets_of (signed_by b m)
short-written b m os l h e = e ∙ written-signed b m 17 (width-128 m l h)

pub short-number : (b : Bool) (m : ℕ) (os : List ℕ) → 2 ^ 127 ≤ m → m < 2 ^ 128 → os ≡ map (sign_free b) (digits 256 17 m) → signed_number os ≡ signed_by b m
short-number b m os l h e = ap signed_number (short-written b m os l h e) ∙ signed-back (signed_by b m)

pub short-kept : (b : Bool) (m : ℕ) (os : List ℕ) → 2 ^ 127 ≤ m → m < 2 ^ 128 → os ≡ map (sign_free b) (digits 256 17 m) → AreFewest (2 ^ 127) os
short-kept b m os l h e = record {
  fewest = ap is_padded (short-written b m os l h e) ∙ written-fewest (signed_by b m);
  large = let p = ap plain (short-number b m os l h e) ∙ plain-signed_by b m in omega arith;
  octets = let P : List ℕ → Type 0 = AreOctets in subst P (sym (short-written b m os l h e)) (octets-complement (signed_octets (signed_by b m)) (signed_by b m));
}

some-octet : (os : List ℕ) (least : ℕ) → 1 ≤ least → least ≤ plain (signed_number os) → 0 < length os
some-octet [] least l h = omega arith
some-octet (o ∷ os) least l h = omega arith

pub kept-written : (os : List ℕ) (least : ℕ) → 1 ≤ least → AreFewest least os → os ≡ signed_octets_of (signed_number os)
kept-written os least l h = written-kept os h.octets h.fewest (some-octet os least l h.large)

-- the octets shown for kept octets
pub kept-signed : (least : ℕ) (os shown : List ℕ) (z : ℤ) → 2 ^ 127 ≤ least → AreFewest least os → signed_number os ≡ z → shown ≡ os → shown ≡ signed_octets_of z
kept-signed least os shown z l h v s = s ∙ kept-written os least (omega arith) h ∙ ap signed_octets_of v

-- ---- octets with no sign

bare_octets : (o : ℕ) (os : List ℕ) → AreOctets (o ∷ os) → 1 ≤ o → Octets (unsigned_number (o ∷ os)) (length (o ∷ os))
bare_octets o os h n =
    let m : 1 * 256 ^ length os ≤ o * 256 ^ length os = mul-le-mul_right (256 ^ length os) n in
    record { below = unsigned-lt (o ∷ os) h; above = λ _. rw (pow-suc 256 (length os)) (omega arith) }

-- octets that don't begin with zero are those that are written
pub unsigned-written : (o : ℕ) (os : List ℕ) → AreOctets (o ∷ os) → 1 ≤ o → o ∷ os ≡ digits 256 (least_octets (unsigned_number (o ∷ os))) (unsigned_number (o ∷ os))
unsigned-written o os h n =
    let w : octet_width (unsigned_number (o ∷ os)) ≡ length (o ∷ os) =
    octets-same (unsigned_number (o ∷ os)) (octet_width (unsigned_number (o ∷ os))) (length (o ∷ os)) (octet_width-octets (unsigned_number (o ∷ os))) (bare_octets o os h n) in
    let l : least_octets (unsigned_number (o ∷ os)) ≡ length (o ∷ os) = ap (max 1) w ∙ omega arith in
    sym (digits-unsigned (o ∷ os) h) ∙ ap (λ k. digits 256 k (unsigned_number (o ∷ os))) (sym l)

zero_written : (p : ℕ) (os : List ℕ) → AreOctets (p ∷ os) → is_padded (0 ∷ p ∷ os) ≡ false → p ∷ os ≡ unsigned_octets_of (pos (unsigned_number (0 ∷ p ∷ os)))
zero_written p os h e =
    let q : 128 ≤ p = grind (arith, nat_tests) in
    let u : unsigned_number (p ∷ os) ≡ unsigned_number (0 ∷ p ∷ os) = omega arith in
    unsigned-written p os h (omega arith) ∙ ap (λ n. unsigned_octets_of (pos n)) u

-- fewest octets, without the octet that only shows that the number isn't negative
pub plain-written : (os : List ℕ) → AreOctets os → is_padded os ≡ false → 1 < length os → plain_octets os ≡ unsigned_octets_of (signed_number os)
plain-written [] h e l = absurd (omega arith)
plain-written (o ∷ []) h e l = absurd (omega arith)
plain-written (o ∷ p ∷ os) h e l = at_cases (cases_lt o 128)
  where
    Z : ℕ → Type 0
    Z x = is_padded (x ∷ p ∷ os) ≡ false → plain_octets (x ∷ p ∷ os) ≡ unsigned_octets_of (pos (unsigned_number (x ∷ p ∷ os)))

    at_zero : (o < 1) ⊎ (1 ≤ o) → plain_octets (o ∷ p ∷ os) ≡ unsigned_octets_of (pos (unsigned_number (o ∷ p ∷ os)))
    at_zero (inl z) = let f : 0 ≡ o = omega arith in subst Z f (zero_written p os h.1) e
    at_zero (inr z) = let t : (o == 0) ≡ false = grind (arith, nat_tests) in rw t (unsigned-written o (p ∷ os) h z)

    at_cases : (o < 128) ⊎ (128 ≤ o) → plain_octets (o ∷ p ∷ os) ≡ unsigned_octets_of (signed_number (o ∷ p ∷ os))
    at_cases (inl c) = at_zero (cases_lt o 1) ∙ ap unsigned_octets_of (sym (signed-low o (p ∷ os) c))
    at_cases (inr c) =
        let t : (o == 0) ≡ false = grind (arith, nat_tests) in
        let n = signed-high o (p ∷ os) c h in
        let w : o ∷ p ∷ os ≡ signed_octets_of (signed_number (o ∷ p ∷ os)) = written-kept (o ∷ p ∷ os) h e (omega arith) in
        let v : o ∷ p ∷ os ≡ unsigned_octets_of (signed_number (o ∷ p ∷ os)) = w ∙ ap signed_octets_of n ∙ sym (ap unsigned_octets_of n) in
        rw t v

many : (os : List ℕ) (least : ℕ) → 2 ^ 127 ≤ least → AreFewest least os → 1 < length os
many [] least l h = let p = h.large in omega arith
many (o ∷ []) least l h = let p = h.large in let q = plain-small o [] h.octets in absurd (omega arith)
many (o ∷ p ∷ os) least l h = omega arith

pub kept-unsigned : (least : ℕ) (os shown : List ℕ) (z : ℤ) → 2 ^ 127 ≤ least → AreFewest least os → signed_number os ≡ z → shown ≡ plain_octets os → shown ≡ unsigned_octets_of z
kept-unsigned least os shown z l h v s = s ∙ plain-written os h.octets h.fewest (many os least l h) ∙ ap unsigned_octets_of v

-- ---- the sign

sign-signed_by : (b : Bool) (m : ℕ) → b ≡ is_below_zero (signed_by b m)
sign-signed_by true m = refl
sign-signed_by false m = refl

pub kept-sign : (least : ℕ) (os : List ℕ) (z : ℤ) (b : Bool) → AreFewest least os → signed_number os ≡ z → b ≡ is_negative os → b ≡ is_below_zero z
kept-sign least os z b h v e =
    e ∙ sign-signed_by (is_negative os) (unsigned_number (map (sign_free (is_negative os)) os))
    ∙ ap is_below_zero (sym (signed-parts os h.octets)) ∙ ap is_below_zero v

-- ---- octets without a sign

plain_cases : (os : List ℕ) (b : Bool) → b ≡ is_negative os → signed_number (cond b (0 ∷ os) os) ≡ pos (unsigned_number os)
plain_cases os true e = signed-low 0 os (omega arith) ∙ ap pos (omega arith)
plain_cases [] false e = refl
plain_cases (o ∷ os) false e = signed-low o os (grind (arith, nat_tests))

pub signed-from_plain : (os rest kept : List ℕ) → unsigned_number (map (sign_free false) rest) ≡ unsigned_number (map (sign_free false) os) →
    kept ≡ signed_from_plain rest → signed_number kept ≡ pos (unsigned_number os)
signed-from_plain os rest kept e k =
    ap signed_number k ∙ plain_cases rest (is_negative rest) refl
    ∙ ap (λ l. pos (unsigned_number l)) (sym (sign_free-false rest)) ∙ ap pos e ∙ ap (λ l. pos (unsigned_number l)) (sign_free-false os)

pub plain-from_plain : (os rest kept : List ℕ) → unsigned_number (map (sign_free false) rest) ≡ unsigned_number (map (sign_free false) os) →
    kept ≡ signed_from_plain rest → nat_lt (unsigned_number os) (2 ^ 128) ≡ false → 2 ^ 128 ≤ plain (signed_number kept)
plain-from_plain os rest kept e k f =
    let p : plain (signed_number kept) ≡ unsigned_number os = ap plain (signed-from_plain os rest kept e k) in
    let q : 2 ^ 128 ≤ unsigned_number os = grind (arith, nat_tests) in
    omega arith
