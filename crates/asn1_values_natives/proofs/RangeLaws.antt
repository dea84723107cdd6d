-- Laws of ranges.
use Rattle.std.proofs.Common.{◌≡◌, ℕ, ◌^◌, ◌<◌, ◌≤◌, Bool, true, false, ℤ, pos, negsuc, ◌-ℤ◌, ◌<ℤ◌, ◌≤ℤ◌, ◌&&◌, ◌-◌, ◌==◌, nat_lt, refl, ap, arith}
use Rattle.std.proofs.lemmas.Int.{ints}
use Rattle.std.proofs.lemmas.Bool.Decides.{nat_tests}
use Rattle.asn1_model.specs.Numbers.{is_within, is_at_most}
use Rattle.asn1_values_natives.specs.Octets.{plain}
use Rattle.asn1_values_natives.specs.Ranges.{range_of, greatest_of, range_of_width}

below : (d : ℤ) → d <ℤ pos 0 → elim d as (λ _. Bool) [ pos n ↦ true | negsuc n ↦ false ] ≡ false
below (pos n) h = absurd (omega (arith, ints))
below (negsuc n) h = refl

at_least : (d : ℤ) → pos 0 ≤ℤ d → elim d as (λ _. Bool) [ pos n ↦ true | negsuc n ↦ false ] ≡ true
at_least (pos n) h = refl
at_least (negsuc n) h = absurd (omega (arith, ints))

pub not_at_most : (a b : ℤ) → b <ℤ a → is_at_most a b ≡ false
not_at_most a b h = below (b -ℤ a) (omega (arith, ints))

pub at_most : (a b : ℤ) → a ≤ℤ b → is_at_most a b ≡ true
at_most a b h = at_least (b -ℤ a) (omega (arith, ints))

large : (n : ℕ) → nat_lt n (2 ^ 128) ≡ false → 2 ^ 128 ≤ n
large n e = grind (arith, nat_tests)

-- a number of more bits is outside the range of each native type
pub outside : (s : Bool) (g : ℕ) (z : ℤ) → g < 2 ^ 128 → nat_lt (plain z) (2 ^ 128) ≡ false → is_within (range_of s g) z ≡ false
outside true g (pos n) h e = let l = large n e in not_at_most (pos n) (pos g) (omega (arith, ints))
outside true g (negsuc n) h e = let l = large n e in let f : is_at_most (negsuc g) (negsuc n) ≡ false =
    not_at_most (negsuc g) (negsuc n) (omega (arith, ints)) in ap (λ b. b && is_at_most (negsuc n) (pos g)) f
outside false g (pos n) h e = let l = large n e in not_at_most (pos n) (pos g) (omega (arith, ints))
outside false g (negsuc n) h e = ap (λ b. b && is_at_most (negsuc n) (pos g)) (not_at_most (pos 0) (negsuc n) (omega (arith, ints)))

-- the range of a native type is that of its bits
pub width_range : (s : Bool) (b g : ℕ) → b ≤ 128 → g ≡ greatest_of s b → range_of s g ≡ range_of_width s b
width_range s b g h e = let f : (b == 2 ^ 32 - 1) ≡ false = grind (arith, nat_tests) in rw (f, range_of_width) (ap (range_of s) e)
