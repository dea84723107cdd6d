-- How many bits hold a number.
use Rattle.std.proofs.Common.{◌≡◌, ℕ, zero, suc, ◌+◌, ◌-◌, ◌*◌, ◌/◌, ◌^◌, ◌<◌, ◌≤◌, ◌==◌, Bool, true, false, refl, arith}
use Rattle.std.proofs.lemmas.Bool.{eqb-true}
use Rattle.std.proofs.Math.Nat.{pow-suc, pow-zero, pow-le-pow_right}
use Rattle.std.specs.Int.Count.{count_leading_zeros}
use Rattle.std.proofs.lemmas.Nat.{leading_length}
use Rattle.asn1_model.specs.Numbers.{width, places_up_to}

abbrev step : ℕ → Bool → ℕ → ℕ
step most t n = elim t [ true ↦ 0 | false ↦ suc (places_up_to most 2 (n / 2)) ]

not_zero : (n : ℕ) → (n == 0) ≡ false → 0 < n
not_zero zero e = cc
not_zero (suc n) e = omega arith

holds : (most n : ℕ) → n ≤ most → n < 2 ^ places_up_to most 2 n
unfolding places_up_to
holds zero n k = rw (pow-zero 2) (omega arith)
holds (suc most) n k = go (n == 0) refl (λ i. holds most (n / 2) i)
  where
    go : (t : Bool) → (n == 0) ≡ t → (n / 2 ≤ most → n / 2 < 2 ^ places_up_to most 2 (n / 2)) → n < 2 ^ step most t n
    go true e r = let z = eqb-true n 0 e in rw (pow-zero 2) (omega arith)
    go false e r =
        let pos : 0 < n = not_zero n e in
        let i : n / 2 < 2 ^ places_up_to most 2 (n / 2) = r (omega arith) in
        rw (pow-suc 2 (places_up_to most 2 (n / 2))) (omega arith)

is_least : (most n m : ℕ) → n < 2 ^ m → places_up_to most 2 n ≤ m
unfolding places_up_to
is_least zero n m h = omega arith
is_least (suc most) n m h = go (n == 0) refl m h (λ k i. is_least most (n / 2) k i)
  where
    go : (t : Bool) → (n == 0) ≡ t → (m : ℕ) → n < 2 ^ m → ((k : ℕ) → n / 2 < 2 ^ k → places_up_to most 2 (n / 2) ≤ k) → step most t n ≤ m
    go true e m h r = omega arith
    go false e zero h r = let pos : 0 < n = not_zero n e in let one = pow-zero 2 in absurd (omega arith)
    go false e (suc k) h r =
        let p = pow-suc 2 k in
        let i : places_up_to most 2 (n / 2) ≤ k = r k (omega arith) in
        omega arith

-- the width holds the number
pub lt-pow-width : (n : ℕ) → n < 2 ^ width n
lt-pow-width n = holds n n (omega arith)

-- no smaller one does
pub width-le : (n m : ℕ) → n < 2 ^ m → width n ≤ m
width-le n m h = is_least n n m h

at_least : (n m : ℕ) → 2 ^ m ≤ 2 * n + 1 → n < 2 ^ width n → m ≤ width n
at_least n zero h k = omega arith
at_least n (suc m) h k =
    let low : width n ≤ m → ⊥ = λ l.
    let p = pow-suc 2 m in
    let q : 2 ^ width n ≤ 2 ^ m = pow-le-pow_right {n = 2} (omega arith) l in
    omega arith in
    omega (arith, low)

pub width-leading : (n : ℕ) → n < 2 ^ 64 → 64 - count_leading_zeros 64 n ≡ width n
width-leading n h =
    let l = leading_length 64 n h in
    let most : width n ≤ l.0 = width-le n l.0 l.2 in
    let least : l.0 ≤ width n = at_least n l.0 l.3 (lt-pow-width n) in
    omega (arith, l.1, most, least)
