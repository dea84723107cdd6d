-- What a conversion to a number of the user-defined type returns.
use Rattle.std.proofs.Common.{◌≡◌, ◌∙◌, refl, sym, ap, subst, ℕ, ◌<◌, ◌≤◌, ◌^◌, ℤ, List, length, arith, Result, Err, Bool, true, false}
use Rattle.asn1_model.specs.Schema.{Range}
use Rattle.asn1_model.specs.Numbers.{is_within}
use Rattle.asn1_schema_records.proofs.Numbers.{some_octets}
use Rattle.asn1_values_natives.proofs.TwosComplement.{signed-back}
use Rattle.asn1_values_natives.specs.Octets.{plain, signed_number, signed_octets_of}
use Rattle.asn1_values_integers.specs.declared.error.IntegerError.{IntegerError}
use Rattle.asn1_values_integers.specs.declared.error.IntegerError.TheVariants.{Overflow, Memory}

is_true : (b : Bool) → (b ≡ false → ⊥) → b ≡ true
is_true true f = refl
is_true false f = absurd (f refl)

pub held_by : {T : Type 0} (r : Result T IntegerError) (os : List ℕ) (z : ℤ) (h : Range) → os ≡ signed_octets_of z → (r ≡ Err Overflow → ⊥)
    → (((0 < length os) × (is_within h (signed_number os) ≡ false)) → r ≡ Err Overflow) → is_within h z ≡ true
held_by r os z h e f g = is_true (is_within h z) (λ i. f (g (omega (arith, some_octets z, ap length e), ap (λ (t : ℤ). is_within h t) (ap signed_number e ∙ signed-back z) ∙ i)))

pub not_held_by : {T : Type 0} (r : Result T IntegerError) (os : List ℕ) (z : ℤ) (h : Range) → os ≡ signed_octets_of z → r ≡ Err Overflow
    → (r ≡ Err Overflow → (0 < length os) × (is_within h (signed_number os) ≡ false)) → is_within h z ≡ false
not_held_by r os z h e f g = ap (λ (t : ℤ). is_within h t) (sym (ap signed_number e ∙ signed-back z)) ∙ (g f).1

pub long_by : {T : Type 0} (r : Result T IntegerError) (os : List ℕ) (z : ℤ) → os ≡ signed_octets_of z → r ≡ Err Memory → (r ≡ Err Memory → 2 ^ 128 ≤ plain (signed_number os)) → 2 ^ 128 ≤ plain z
long_by r os z e f g = subst (λ (t : ℤ). 2 ^ 128 ≤ plain t) (ap signed_number e ∙ signed-back z) (g f)
