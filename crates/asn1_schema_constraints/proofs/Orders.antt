-- The tests of the order of integers and of counts.
use Rattle.std.proofs.Common.{◌≡◌, Bool, true, false, ℤ, pos, negsuc, ◌-ℤ◌, ◌<ℤ◌, ◌≤ℤ◌, refl, arith}
use Rattle.std.proofs.lemmas.Int.{ints}
use Rattle.asn1_model.specs.Numbers.{is_at_most}

below : (d : ℤ) → d <ℤ pos 0 → elim d as (λ _. Bool) [ pos n ↦ true | negsuc n ↦ false ] ≡ false
below (pos n) h = absurd (omega (arith, ints))
below (negsuc n) h = refl

at_least : (d : ℤ) → pos 0 ≤ℤ d → elim d as (λ _. Bool) [ pos n ↦ true | negsuc n ↦ false ] ≡ true
at_least (pos n) h = refl
at_least (negsuc n) h = absurd (omega (arith, ints))

-- the test fails if the first is greater than the second
pub not_at_most : (a b : ℤ) → b <ℤ a → is_at_most a b ≡ false
not_at_most a b h = below (b -ℤ a) (omega (arith, ints))

-- the test passes if it is not
pub at_most : (a b : ℤ) → a ≤ℤ b → is_at_most a b ≡ true
at_most a b h = at_least (b -ℤ a) (omega (arith, ints))

pub ruleset tests_of_order = (not_at_most, at_most)
