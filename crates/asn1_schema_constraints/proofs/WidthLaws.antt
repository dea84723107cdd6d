-- Fixed forms, by cases of the bounds and of the size of the numbers.
use Rattle.std.proofs.Common.{◌≡◌, ◌∙◌, refl, sym, ap, ℕ, ◌^◌, ◌<◌, ◌≤◌, max, ℤ, pos, negsuc, ◌<ℤ◌, ◌≤ℤ◌, true, false, cond, Option, Some, None, inl, inr, arith}
use Rattle.std.proofs.lemmas.Int.{ints}
use Rattle.std.proofs.lemmas.Bool.{le-leb, lt-leb, cases_lt}
use Rattle.std.proofs.Math.Nat.{pow-le-pow_right}
use Rattle.asn1_model.specs.Numbers.{signed_octets, octet_width, width}
use Rattle.asn1_model.specs.Oer.{fixed_octets, bounded, natural_form, signed_form}
use Rattle.asn1_values_natives.specs.Octets.{plain}
use Rattle.asn1_values_natives.proofs.Widths.{width-bits, bits-least, signed_octets-plain, octets-least, octet_width-octets}
use Rattle.asn1_schema_constraints.specs.Widths.{has_sign, fixed_width}

-- ---- the least of 1, 2, 4 and 8

pub one : (k : ℕ) → k ≤ 1 → Some 1 ≡ fixed_octets k
one k h = let a = le-leb k 1 h in rw a refl

pub two : (k : ℕ) → 1 < k → k ≤ 2 → Some 2 ≡ fixed_octets k
two k g h = let a = lt-leb k 1 g in let b = le-leb k 2 h in rw (a, b) refl

pub four : (k : ℕ) → 2 < k → k ≤ 4 → Some 4 ≡ fixed_octets k
four k g h = let a = lt-leb k 1 (omega arith) in let b = lt-leb k 2 g in let d = le-leb k 4 h in rw (a, b, d) refl

pub eight : (k : ℕ) → 4 < k → k ≤ 8 → Some 8 ≡ fixed_octets k
eight k g h = let a = lt-leb k 1 (omega arith) in let b = lt-leb k 2 (omega arith) in let d = lt-leb k 4 g in let e = le-leb k 8 h in rw (a, b, d, e) refl

pub more : (k : ℕ) → 8 < k → None ≡ fixed_octets k
more k g = let a = lt-leb k 1 (omega arith) in let b = lt-leb k 2 (omega arith) in let d = lt-leb k 4 (omega arith) in let e = lt-leb k 8 g in rw (a, b, d, e) refl

-- ---- unsigned numbers

pub width_at_most : (n k : ℕ) → n < 256 ^ k → octet_width n ≤ k
width_at_most n k h = octets-least n k (octet_width n) (octet_width-octets n) h

held_in : (n k : ℕ) → octet_width n ≤ k → n < 256 ^ k
held_in n k h =
    let p : 256 ^ octet_width n ≤ 256 ^ k = pow-le-pow_right (omega arith) h in
    let b = (octet_width-octets n).below in
    omega (arith, p, b)

pub above : (n k : ℕ) → 256 ^ k ≤ n → k < octet_width n
above n k h = elim (cases_lt k (octet_width n)) [
  | inl l ↦ l
  | inr g ↦ let b = held_in n k g in absurd (omega (arith, b))
]

-- ---- signed numbers

signed_at_most : (m n : ℕ) → m ≤ n → signed_octets (pos m) ≤ signed_octets (pos n)
signed_at_most m n h =
    let b = (width-bits n).below in
    let w : width m ≤ width n = bits-least m (width n) (width m) (width-bits m) (omega arith) in
    omega (arith, w)

signed_same : (z : ℤ) → signed_octets z ≡ signed_octets (pos (plain z))
signed_same z = signed_octets-plain z ∙ sym (signed_octets-plain (pos (plain z)))

larger : (m n : ℕ) → max (signed_octets (pos m)) (signed_octets (pos n)) ≡ signed_octets (pos (max m n))
larger m n = elim (cases_lt m n) [
  | inl l ↦ let e : max m n ≡ n = omega arith in let s = signed_at_most m n (omega arith) in rw e (omega (arith, s))
  | inr g ↦ let e : max m n ≡ m = omega arith in let s = signed_at_most n m g in rw e (omega (arith, s))
]

pub signed_between : (low high : ℤ) (m : ℕ) → low <ℤ pos 0 → m ≡ max (plain low) (plain high) → fixed_octets (signed_octets (pos m)) ≡ fixed_width (Some low) (Some high)
signed_between (pos low) high m h e = absurd (omega (arith, ints))
signed_between (negsuc low) high m h e =
    ap (λ n. fixed_octets (signed_octets (pos n))) e
    ∙ ap fixed_octets (sym (larger (plain (negsuc low)) (plain high)) ∙ sym (both (signed_same (negsuc low)) (signed_same high)))
  where
    both : {a b c d : ℕ} → a ≡ b → c ≡ d → max a c ≡ max b d
    both {a} {b} {c} {d} p q = ap (λ t. max t c) p ∙ ap (max b) q

pub crossed : (low high : ℤ) → pos 0 ≤ℤ low → high <ℤ pos 0 → None ≡ fixed_width (Some low) (Some high)
crossed (pos low) (pos high) h k = absurd (omega (arith, ints))
crossed (pos low) (negsuc high) h k = refl
crossed (negsuc low) high h k = absurd (omega (arith, ints))

pub natural_between : (low high : ℤ) (n : ℕ) → pos 0 ≤ℤ low → pos 0 ≤ℤ high → pos n ≡ high → fixed_octets (octet_width n) ≡ fixed_width (Some low) (Some high)
natural_between (pos low) high n h k e = ap (λ z. fixed_width (Some (pos low)) (Some z)) e
natural_between (negsuc low) high n h k e = absurd (omega (arith, ints))

-- ---- the sign
pub sign_below : (z : ℤ) → z <ℤ pos 0 → true ≡ has_sign (Some z)
sign_below (pos n) h = absurd (omega (arith, ints))
sign_below (negsuc n) h = refl

pub sign_above : (z : ℤ) → pos 0 ≤ℤ z → false ≡ has_sign (Some z)
sign_above (pos n) h = refl
sign_above (negsuc n) h = absurd (omega (arith, ints))

-- ---- the sign and the width determine the form of a number under bounds
pub form_told : (low high : Option ℤ) (v : ℤ) → bounded low high v ≡ cond (has_sign low) (signed_form (fixed_width low high) v) (natural_form (fixed_width low high) v)
unfolding bounded
form_told (Some (pos low)) (Some (pos high)) v = refl
form_told (Some (pos low)) (Some (negsuc high)) v = refl
form_told (Some (pos low)) None v = refl
form_told (Some (negsuc low)) (Some high) v = refl
form_told (Some (negsuc low)) None v = refl
form_told None (Some high) v = refl
form_told None None v = refl
