-- Numbers in any number of octets.
use Rattle.std.specs.Prelude.{ℤ, pos, negsuc, leb}
use Rattle.std.proofs.Common.{◌≡◌, ℕ, suc, ◌+◌, ◌-◌, ◌*◌, ◌^◌, ◌<◌, ◌≤◌, inr, lit<, Bool, true, false, List, [], ◌∷◌, length, refl, ap, sym, ◌∙◌, subst, arith}
use Rattle.std.proofs.lemmas.Bool.{false≢true, ltb-true, le-leb, leb-true, and_parts}
use Rattle.std.proofs.Math.Nat.{pow-succ', mul-le-mul_right}
use Rattle.asn1_model.specs.Numbers.{digits, least_octets, signed_octets, complement}
use Rattle.asn1_model.specs.Strings.{is_octet}
use Rattle.std.specs.List.{list_all}
use Rattle.asn1_model.specs.Form.{Form, Reads, only_if}
use Rattle.asn1_model.specs.Per
use Rattle.asn1_model.specs.Oer
use Rattle.asn1_laws_values.proofs.Numbers.{length-complement, least_hold, signed_hold}
use Rattle.asn1_laws_numbers.specs.Padded.{StandsFor, IsReadAsAny}
use Rattle.asn1_laws_numbers.proofs.Numbers.{digits_sum, complement_sum, fewest_octets}
use Rattle.std.specs.Int.Digits.{number_from_digits_after}

-- ---- octets are the digits of their sum
number_below : (m : ℕ) (os : List ℕ) → list_all is_octet os ≡ true → number_from_digits_after 256 m os < (m + 1) * 256 ^ length os
number_below m [] h = omega arith
number_below m (o ∷ os) h =
    let p = and_parts (is_octet o) (list_all is_octet os) h in
    let a : o < 256 = ltb-true o 256 p.0 in
    let i = number_below (m * 256 + o) os p.1 in
    let b : (o + 1) * 256 ^ length os ≤ 256 * 256 ^ length os = mul-le-mul_right (256 ^ length os) (omega arith) in
    let e : 256 ^ suc (length os) ≡ 256 * 256 ^ length os = pow-succ' 256 (length os) in
    rw e (omega arith)

same_octets : (m n : ℕ) (os ps : List ℕ) → list_all is_octet os ≡ true → list_all is_octet ps ≡ true → length os ≡ length ps →
    number_from_digits_after 256 m os ≡ number_from_digits_after 256 n ps → (m ≡ n) × (os ≡ ps)
same_octets m n [] [] h i l e = (e, refl)
same_octets m n [] (p ∷ ps) h i l e = absurd (omega arith)
same_octets m n (o ∷ os) [] h i l e = absurd (omega arith)
same_octets m n (o ∷ os) (p ∷ ps) h i l e =
    let h' = and_parts (is_octet o) (list_all is_octet os) h in
    let i' = and_parts (is_octet p) (list_all is_octet ps) i in
    let a : o < 256 = ltb-true o 256 h'.0 in
    let b : p < 256 = ltb-true p 256 i'.0 in
    let q = same_octets (m * 256 + o) (n * 256 + p) os ps h'.1 i'.1 (omega arith) e in
    let x = q.0 in
    let c : o ≡ p = omega arith in
    (omega arith, ap (λ y. y ∷ os) c ∙ ap (λ y. p ∷ y) q.1)

pub digits_back : (n : ℕ) (os : List ℕ) → list_all is_octet os ≡ true → number_from_digits_after 256 0 os ≡ n → (n < 256 ^ length os) × (digits 256 (length os) n ≡ os)
digits_back n os h e =
    let a = number_below 0 os h in
    let b : n < 256 ^ length os = omega arith in
    let d = digits_sum 256 (length os) n (lit< tt) b in
    (b, (same_octets 0 0 (digits 256 (length os) n) os d.2 h d.1 (d.0 ∙ sym e)).1)

-- ---- two's complement
complement_back : (v : ℤ) (os : List ℕ) → list_all is_octet os ≡ true → 0 < length os → StandsFor os v → (signed_octets v ≤ length os) × (complement (length os) v ≡ os)
complement_back (pos n) os h k s = ((fewest_octets n (length os) k).1.1 s.1, (digits_back n os h s.0).1)
complement_back (negsuc n) os h k s =
    let e = s.0 in
    let d = digits_back (256 ^ length os - 1 - n) os h (omega arith) in
    ((fewest_octets n (length os) k).2.1 s.1, d.1)

complement_stands : (k : ℕ) (v : ℤ) → signed_octets v ≤ k → (0 < k) × StandsFor (complement k v) v
complement_stands k (pos n) h =
    let a = signed_hold k (pos n) h in
    let b = complement_sum k n a.0 a.1 in
    (a.0, (b.0, subst (λ x. n < 2 ^ (8 * x - 1)) (sym b.2) a.1))
complement_stands k (negsuc n) h =
    let a = signed_hold k (negsuc n) h in
    let b = complement_sum k n a.0 a.1 in
    (a.0, (b.1 ∙ ap (λ x. 256 ^ x) (sym b.3), subst (λ x. n < 2 ^ (8 * x - 1)) (sym b.3) a.1))

-- ---- the forms
module _ {F : Type 0} {D : F → Type 0} {A : Type 0} (free : F → Bool) (p : ℕ) (w : List A) where
  pub read_if : (b : Bool) (x : Form F D A) → Reads free (only_if b x) p w → (b ≡ true) × Reads free x p w
  unfolding Reads
  read_if true x r = (refl, r)
  read_if false x r = absurd r

  pub if_read : (b : Bool) (x : Form F D A) → b ≡ true → Reads free x p w → Reads free (only_if b x) p w
  unfolding Reads
  if_read true x e r = r
  if_read false x e r = absurd (false≢true e)

module _ (free : Oer.Freedom → Bool) (longer : free Oer.longer_number ≡ true) (p : ℕ) (w : List ℕ) where
  octets_counted : (os : List ℕ) → Reads free (Oer.counted os) p w → list_all is_octet os ≡ true
  unfolding Oer.counted
  octets_counted os r = (read_if free p w _ _ r).0

  unsigned_sum : (n : ℕ) → Reads free (Oer.unsigned n) p w → (os : List ℕ) × (0 < length os) × (number_from_digits_after 256 0 os ≡ n) × Reads free (Oer.counted os) p w
  unfolding Oer.unsigned Reads
  unsigned_sum n r =
      let k = r.0 in
      let q = read_if free p w (leb (least_octets n) k) (Oer.counted (digits 256 k n)) r.2 in
      let l = leb-true _ _ q.0 in
      let d = digits_sum 256 k n (lit< tt) (least_hold k n l) in
      let e = d.1 in
      (digits 256 k n, omega arith, d.0, q.1)

  sum_unsigned : (n : ℕ) (os : List ℕ) → 0 < length os → number_from_digits_after 256 0 os ≡ n → Reads free (Oer.counted os) p w → Reads free (Oer.unsigned n) p w
  unfolding Oer.unsigned Reads
  sum_unsigned n os h e r =
      let b = digits_back n os (octets_counted os r) e in
      let l = (fewest_octets n (length os) h).0.1 b.0 in
      (length os, inr longer, if_read free p w _ (Oer.counted (digits 256 (length os) n)) (le-leb _ _ l) (subst (λ x. Reads free (Oer.counted x) p w) (sym b.1) r))

  signed_sum : (v : ℤ) → Reads free (Oer.signed v) p w → (os : List ℕ) × (0 < length os) × StandsFor os v × Reads free (Oer.counted os) p w
  unfolding Oer.signed Reads
  signed_sum v r =
      let k = r.0 in
      let q = read_if free p w (leb (signed_octets v) k) (Oer.counted (complement k v)) r.2 in
      let s = complement_stands k v (leb-true _ _ q.0) in
      let a = s.0 in
      let e = length-complement k v in
      (complement k v, omega arith, s.1, q.1)

  sum_signed : (v : ℤ) (os : List ℕ) → 0 < length os → StandsFor os v → Reads free (Oer.counted os) p w → Reads free (Oer.signed v) p w
  unfolding Oer.signed Reads
  sum_signed v os h s r =
      let b = complement_back v os (octets_counted os r) h s in
      (length os, inr longer, if_read free p w _ (Oer.counted (complement (length os) v)) (le-leb _ _ b.0) (subst (λ x. Reads free (Oer.counted x) p w) (sym b.1) r))

pub oer_numbers : (free : Oer.Freedom → Bool) → free Oer.longer_number ≡ true →
    ((n : ℕ) → IsReadAsAny free (Oer.unsigned n) Oer.counted (λ os. number_from_digits_after 256 0 os ≡ n)) × ((v : ℤ) → IsReadAsAny free (Oer.signed v) Oer.counted (λ os. StandsFor os v))
oer_numbers free h = (λ n p w. (unsigned_sum free h p w n, sum_unsigned free h p w n), λ v p w. (signed_sum free h p w v, sum_signed free h p w v))

module _ (free : Per.Freedom → Bool) (al : Bool) (longer : free Per.longer_number ≡ true) (p : ℕ) (w : List Bool) where
  bits_counted : (os : List ℕ) → Reads free (Per.counted_octets al os) p w → list_all is_octet os ≡ true
  unfolding Per.counted_octets
  bits_counted os r = (read_if free p w _ _ r).0

  above_sum : (n : ℕ) → Reads free (Per.semi_constrained al n) p w → (os : List ℕ) × (0 < length os) × (number_from_digits_after 256 0 os ≡ n) × Reads free (Per.counted_octets al os) p w
  unfolding Per.semi_constrained Reads
  above_sum n r =
      let k = r.0 in
      let q = read_if free p w (leb (least_octets n) k) (Per.counted_octets al (digits 256 k n)) r.2 in
      let l = leb-true _ _ q.0 in
      let d = digits_sum 256 k n (lit< tt) (least_hold k n l) in
      let e = d.1 in
      (digits 256 k n, omega arith, d.0, q.1)

  sum_above : (n : ℕ) (os : List ℕ) → 0 < length os → number_from_digits_after 256 0 os ≡ n → Reads free (Per.counted_octets al os) p w → Reads free (Per.semi_constrained al n) p w
  unfolding Per.semi_constrained Reads
  sum_above n os h e r =
      let b = digits_back n os (bits_counted os r) e in
      let l = (fewest_octets n (length os) h).0.1 b.0 in
      (length os, inr longer, if_read free p w _ (Per.counted_octets al (digits 256 (length os) n)) (le-leb _ _ l) (subst (λ x. Reads free (Per.counted_octets al x) p w) (sym b.1) r))

  free_sum : (v : ℤ) → Reads free (Per.unconstrained al v) p w → (os : List ℕ) × (0 < length os) × StandsFor os v × Reads free (Per.counted_octets al os) p w
  unfolding Per.unconstrained Reads
  free_sum v r =
      let k = r.0 in
      let q = read_if free p w (leb (signed_octets v) k) (Per.counted_octets al (complement k v)) r.2 in
      let s = complement_stands k v (leb-true _ _ q.0) in
      let a = s.0 in
      let e = length-complement k v in
      (complement k v, omega arith, s.1, q.1)

  sum_free : (v : ℤ) (os : List ℕ) → 0 < length os → StandsFor os v → Reads free (Per.counted_octets al os) p w → Reads free (Per.unconstrained al v) p w
  unfolding Per.unconstrained Reads
  sum_free v os h s r =
      let b = complement_back v os (bits_counted os r) h s in
      (length os, inr longer, if_read free p w _ (Per.counted_octets al (complement (length os) v)) (le-leb _ _ b.0) (subst (λ x. Reads free (Per.counted_octets al x) p w) (sym b.1) r))

pub per_numbers : (free : Per.Freedom → Bool) (al : Bool) → free Per.longer_number ≡ true →
    ((n : ℕ) → IsReadAsAny free (Per.semi_constrained al n) (Per.counted_octets al) (λ os. number_from_digits_after 256 0 os ≡ n))
    × ((v : ℤ) → IsReadAsAny free (Per.unconstrained al v) (Per.counted_octets al) (λ os. StandsFor os v))
per_numbers free al h = (λ n p w. (above_sum free al h p w n, sum_above free al h p w n), λ v p w. (free_sum free al h p w v, sum_free free al h p w v))
