-- Conversions of integers that may fail.
use Rattle.std.specs.Prelude.{◌≡◌, ℕ, ℤ, pos, Result, is_ok, IfOk, IfErr}
use Rattle.asn1_values_integers.specs.declared.error.IntegerError.{IntegerError}
use Rattle.asn1_values_integers.specs.declared.error.IntegerError.TheVariants.{Overflow}
use Rattle.asn1_model.specs.Numbers.{is_within}
use Rattle.asn1_values_natives.specs.Ranges.{natural_range, whole_range}

-- the result is the number exactly if it is from 0 to the greatest, and else the error returns it
pub record IsNatural (greatest : ℕ) (z : ℤ) (r : Result ℕ ℤ) : Type 0 where
  pub value : IfOk r (λ n. pos n ≡ z)
  pub original : IfErr r (λ e. e ≡ z)
  pub fits : is_ok r ≡ is_within (natural_range greatest) z

-- the result is the number exactly if it is from -1 - greatest to greatest, and else the error returns it
pub record IsWhole (greatest : ℕ) (z : ℤ) (r : Result ℤ ℤ) : Type 0 where
  pub value : IfOk r (λ n. n ≡ z)
  pub original : IfErr r (λ e. e ≡ z)
  pub fits : is_ok r ≡ is_within (whole_range greatest) z

-- the result is the number exactly if it is from 0 to the greatest, and else an overflow
pub record IsLentNatural (greatest : ℕ) (z : ℤ) (r : Result ℕ IntegerError) : Type 0 where
  pub value : IfOk r (λ n. pos n ≡ z)
  pub overflow : IfErr r (λ e. e ≡ Overflow)
  pub fits : is_ok r ≡ is_within (natural_range greatest) z

-- the result is the number exactly if it is from -1 - greatest to greatest, and else an overflow
pub record IsLentWhole (greatest : ℕ) (z : ℤ) (r : Result ℤ IntegerError) : Type 0 where
  pub value : IfOk r (λ n. n ≡ z)
  pub overflow : IfErr r (λ e. e ≡ Overflow)
  pub fits : is_ok r ≡ is_within (whole_range greatest) z
