-- The conversion of a number through its octets fails only if memory runs out.
use Rattle.std.proofs.Common.{◌≡◌, ◌∙◌, refl, ap, subst, ℕ, ◌<◌, ◌≤◌, ◌^◌, ℤ, pos, negsuc, List, length, arith, Result, Ok, Err}
use Rattle.std.specs.Prelude.{IfErr}
use Rattle.asn1_model.specs.Numbers.{signed_octets}
use Rattle.asn1_values_natives.proofs.TwosComplement.{length-complement, signed-back}
use Rattle.asn1_values_natives.specs.Octets.{plain, signed_number, signed_octets_of}
use Rattle.asn1_values_integers.specs.declared.error.IntegerError.{IntegerError}
use Rattle.asn1_values_integers.specs.declared.error.IntegerError.TheVariants.{Empty, Overflow, Memory}

pub some_octets : (z : ℤ) → 0 < length (signed_octets_of z)
some_octets (pos n) = omega (arith, length-complement (signed_octets (pos n)) (pos n))
some_octets (negsuc n) = omega (arith, length-complement (signed_octets (negsuc n)) (negsuc n))

pub not_empty : (os : List ℕ) (z : ℤ) → os ≡ signed_octets_of z → length os ≡ 0 → ⊥
not_empty os z e h = omega (arith, some_octets z, ap length e)

pub only_memory : (r : Result ℤ IntegerError) (os : List ℕ) (z : ℤ) → os ≡ signed_octets_of z → (r ≡ Err Empty → length os ≡ 0) →
    (r ≡ Err Overflow → ⊥) → (r ≡ Err Memory → 2 ^ 128 ≤ plain (signed_number os))
    → IfErr r (λ e. (e ≡ Memory) × (2 ^ 128 ≤ plain z))
only_memory (Ok x) os z e f g h = tt
only_memory (Err Empty) os z e f g h = absurd (not_empty os z e (f refl))
only_memory (Err Overflow) os z e f g h = absurd (g refl)
only_memory (Err Memory) os z e f g h = (refl, subst (λ (t : ℤ). 2 ^ 128 ≤ plain t) (ap signed_number e ∙ signed-back z) (h refl))
