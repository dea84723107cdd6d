-- How many bits and octets a number needs.
use Rattle.std.proofs.Common.{◌≡◌, ℕ, zero, suc, ◌+◌, ◌-◌, ◌*◌, ◌/◌, ◌^◌, ◌<◌, ◌≤◌, ◌==◌, false, ℤ, pos, negsuc, refl, ap, sym, ◌∙◌, arith}
use Rattle.std.proofs.Math.Nat.{pow-suc, pow-le-pow_right}
use Rattle.std.proofs.lemmas.Bool.Decides.{nat_tests}
use Rattle.std.proofs.lemmas.Nat.{leading_length, pow-add}
use Rattle.std.specs.Int.Count.{count_leading_zeros}
use Rattle.asn1_model.specs.Numbers.{places_up_to, width, octet_width, signed_octets}
use Rattle.asn1_values_natives.specs.Octets.{plain}

-- n has w binary digits
pub record Bits (n w : ℕ) : Type 0 where
  pub below : n < 2 ^ w
  pub above : 0 < w → 2 ^ w ≤ 2 * n

halved : (n w : ℕ) → 0 < n → Bits (n / 2) w → Bits n (suc w)
halved n zero h b = record { below = omega (arith, b.below); above = λ _. omega arith }
halved n (suc w) h b = record { below = rw (pow-suc 2 (suc w)) (omega (arith, b.below)); above = λ _. rw (pow-suc 2 (suc w)) (omega (arith, b.above (omega arith))) }

bits_up_to : (f n : ℕ) → n ≤ f → Bits n (places_up_to f 2 n)
unfolding places_up_to
bits_up_to zero n h = record { below = omega arith; above = λ e. omega arith }
bits_up_to (suc f) zero h = record { below = omega arith; above = λ e. omega arith }
bits_up_to (suc f) (suc n) h = let e : (suc n == 0) ≡ false = grind (arith, nat_tests) in
    rw (e, places_up_to) (halved (suc n) (places_up_to f 2 (suc n / 2)) (omega arith) (bits_up_to f (suc n / 2) (omega arith)))

pub width-bits : (n : ℕ) → Bits n (width n)
width-bits n = bits_up_to n n (omega arith)

power_le : (i j : ℕ) → i ≤ j → 2 ^ i ≤ 2 ^ j
power_le i j h = pow-le-pow_right (omega arith) h

bits-least_at : (n v w : ℕ) → Bits n w → n < 2 ^ v → v < w → w ≤ v
bits-least_at n v w b h l =
    let p : 2 ^ suc v ≤ 2 ^ w = power_le (suc v) w (omega arith) in
    let q : 2 ^ w ≤ 2 * n = b.above (omega arith) in
    let r : 2 ^ suc v ≡ 2 ^ v * 2 = pow-suc 2 v in
    absurd (omega arith)

pub bits-least : (n v w : ℕ) → Bits n w → n < 2 ^ v → w ≤ v
bits-least n v w b h = let l : v < w → w ≤ v = bits-least_at n v w b h in grind arith

pub bits-same : (n v w : ℕ) → Bits n v → Bits n w → v ≡ w
bits-same n v w b c = let l = bits-least n v w c b.below in let g = bits-least n w v b c.below in omega arith

pub signed_octets-plain : (z : ℤ) → signed_octets z ≡ width (plain z) / 8 + 1
signed_octets-plain (pos m) = refl
signed_octets-plain (negsuc m) = refl

pub signed_octets-le : (z : ℤ) (k : ℕ) → plain z < 2 ^ (8 * k + 7) → signed_octets z ≤ k + 1
signed_octets-le z k h = let l = bits-least (plain z) (8 * k + 7) (width (plain z)) (width-bits (plain z)) h in rw (signed_octets-plain z) (omega arith)

pub signed_octets-above : (z : ℤ) (k : ℕ) → 2 ^ (8 * k + 7) ≤ plain z → k + 2 ≤ signed_octets z
signed_octets-above z k h =
    let b = width-bits (plain z) in
    let p : width (plain z) ≤ 8 * k + 7 → 2 ^ width (plain z) ≤ 2 ^ (8 * k + 7) = power_le (width (plain z)) (8 * k + 7) in
    let q : plain z < 2 ^ width (plain z) = b.below in
    let r : 8 * k + 7 < width (plain z) = grind arith in
    rw (signed_octets-plain z) (omega arith)

even : (m : ℕ) → 0 < m → (n : ℕ) → 2 ^ m ≤ 2 * n + 1 → 2 ^ m ≤ 2 * n
even zero h n l = absurd (omega arith)
even (suc m) h n l = let e : 2 ^ suc m ≡ 2 ^ m * 2 = pow-suc 2 m in omega arith

-- the width by the leading zeros at k bits
pub width-leading : (k n : ℕ) → n < 2 ^ k → k - count_leading_zeros k n ≡ width n
width-leading k n h =
    let l = leading_length k n h in
    let b : Bits n l.0 = record { below = l.2; above = λ p. even l.0 p n l.3 } in
    let s : l.0 ≡ width n = bits-same n l.0 (width n) b (width-bits n) in
    omega (arith, l.1)

-- n has k digits to the base 256
pub record Octets (n k : ℕ) : Type 0 where
  pub below : n < 256 ^ k
  pub above : 0 < k → 256 ^ k ≤ 256 * n

octets_step : (n k : ℕ) → 0 < n → Octets (n / 256) k → Octets n (suc k)
octets_step n zero h b = record { below = omega (arith, b.below); above = λ _. omega arith }
octets_step n (suc k) h b = record { below = rw (pow-suc 256 (suc k)) (omega (arith, b.below)); above = λ _. rw (pow-suc 256 (suc k)) (omega (arith, b.above (omega arith))) }

octets_up_to : (f n : ℕ) → n ≤ f → Octets n (places_up_to f 256 n)
unfolding places_up_to
octets_up_to zero n h = record { below = omega arith; above = λ e. omega arith }
octets_up_to (suc f) zero h = record { below = omega arith; above = λ e. omega arith }
octets_up_to (suc f) (suc n) h = let e : (suc n == 0) ≡ false = grind (arith, nat_tests) in
    rw (e, places_up_to) (octets_step (suc n) (places_up_to f 256 (suc n / 256)) (omega arith) (octets_up_to f (suc n / 256) (omega arith)))

octets-least_at : (n v w : ℕ) → Octets n w → n < 256 ^ v → v < w → w ≤ v
octets-least_at n v w b h l =
    let p : 256 ^ suc v ≤ 256 ^ w = pow-le-pow_right (omega arith) {i = suc v} {j = w} (omega arith) in
    let q : 256 ^ w ≤ 256 * n = b.above (omega arith) in
    let r : 256 ^ suc v ≡ 256 ^ v * 256 = pow-suc 256 v in
    absurd (omega arith)

pub octets-least : (n v w : ℕ) → Octets n w → n < 256 ^ v → w ≤ v
octets-least n v w b h = let l : v < w → w ≤ v = octets-least_at n v w b h in grind arith

pub octets-same : (n v w : ℕ) → Octets n v → Octets n w → v ≡ w
octets-same n v w b c = let l = octets-least n v w c b.below in let g = octets-least n w v b c.below in omega arith

pub octet_width-octets : (n : ℕ) → Octets n (octet_width n)
octet_width-octets n = octets_up_to n n (omega arith)

-- 256 to a power is a power of two
pub pow256 : (k : ℕ) → 256 ^ k ≡ 2 ^ (8 * k)
pow256 zero = refl
pow256 (suc k) =
    let e : 8 * suc k ≡ 8 * k + 8 = omega arith in
    pow-suc 256 k ∙ ap (λ x. x * 256) (pow256 k) ∙ sym (ap (λ x. 2 ^ x) e ∙ pow-add 2 (8 * k) 8)

eights : (n w : ℕ) → Bits n w → Octets n ((w + 7) / 8)
eights n w b = eights_at n w ((w + 7) / 8) b (omega arith) (omega arith)
  where
    eights_at : (n w k : ℕ) → Bits n w → w ≤ 8 * k → 8 * k ≤ w + 7 → Octets n k
    eights_at n w k b l h =
        let p = pow256 k in
        let q : 2 ^ w ≤ 2 ^ (8 * k) = power_le w (8 * k) l in
        let r : 2 ^ (8 * k) ≤ 2 ^ (w + 7) = power_le (8 * k) (w + 7) h in
        let s : 2 ^ (w + 7) ≡ 2 ^ w * 2 ^ 7 = pow-add 2 w 7 in
        record { below = omega (arith, b.below); above = λ z. omega (arith, b.above (omega arith)) }

pub octet_width-width : (n : ℕ) → octet_width n ≡ (width n + 7) / 8
octet_width-width n = octets-same n (octet_width n) ((width n + 7) / 8) (octet_width-octets n) (eights n (width n) (width-bits n))
