-- As many digits as a number has hold it.
use Rattle.std.proofs.Common.{◌≡◌, ℕ, zero, suc, ◌*◌, ◌/◌, ◌^◌, ◌<◌, ◌≤◌, ◌==◌, Bool, true, false, refl, arith}
use Rattle.std.proofs.lemmas.Bool.{eqb-true}
use Rattle.std.proofs.Math.Nat.{div-lt_iff_lt-mul, div-lt_self, pow-suc, pow-zero}
use Rattle.asn1_model.specs.Numbers.{places_up_to}

abbrev step : ℕ → ℕ → Bool → ℕ → ℕ
step most base t n = elim t [ true ↦ 0 | false ↦ suc (places_up_to most base (n / base)) ]

not_zero : (n : ℕ) → (n == 0) ≡ false → 0 < n
not_zero zero e = cc
not_zero (suc n) e = omega arith

pub places_hold : (most base n : ℕ) → 1 < base → n ≤ most → n < base ^ places_up_to most base n
unfolding places_up_to
places_hold zero base n h k = rw (pow-zero base) (omega arith)
places_hold (suc most) base n h k = go (n == 0) refl (λ i. places_hold most base (n / base) h i)
  where
    go : (t : Bool) → (n == 0) ≡ t → (n / base ≤ most → n / base < base ^ places_up_to most base (n / base)) → n < base ^ step most base t n
    go true e r = let z = eqb-true n 0 e in rw (pow-zero base) (omega arith)
    go false e r =
        let pos : 0 < n = not_zero n e in
        let less : n / base < n = div-lt_self pos h in
        let i = r (omega arith) in
        let j : n < base ^ places_up_to most base (n / base) * base = (div-lt_iff_lt-mul {k = base} {x = n} {y = base ^ places_up_to most base (n / base)} (omega arith)).0 i in
        rw (pow-suc base (places_up_to most base (n / base))) j

-- and no fewer do
pub places_fewest : (most base n k : ℕ) → 1 < base → n < base ^ k → places_up_to most base n ≤ k
unfolding places_up_to
places_fewest zero base n k h l = omega arith
places_fewest (suc most) base n k h l = go (n == 0) refl k l (λ j m. places_fewest most base (n / base) j h m)
  where
    go : (t : Bool) → (n == 0) ≡ t → (k : ℕ) → n < base ^ k → ((j : ℕ) → n / base < base ^ j → places_up_to most base (n / base) ≤ j) → step most base t n ≤ k
    go true e k l r = omega arith
    go false e zero l r =
        let pos : 0 < n = not_zero n e in
        let one : n < 1 = rw pow-zero at l in
        absurd (omega arith)
    go false e (suc j) l r =
        let m : n < base ^ j * base = rw pow-suc at l in
        let d : n / base < base ^ j = (div-lt_iff_lt-mul {k = base} {x = n} {y = base ^ j} (omega arith)).1 m in
        let i = r j d in
        omega arith
