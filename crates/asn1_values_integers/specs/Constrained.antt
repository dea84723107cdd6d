-- Numbers within a range.
use Rattle.std.specs.Prelude.{◌≡◌, ℤ, Some, Result, is_ok, IfOk, IfErr}
use Rattle.asn1_model.specs.Schema.{Range}
use Rattle.asn1_model.specs.Numbers.{is_within}
use Rattle.asn1_values_integers.specs.declared.constrained.RangedInteger.{RangedInteger}

-- the integer that it is
abbrev pub constrained_number : {E : _} {g : _} → RangedInteger E g → ℤ
constrained_number c = c.number

-- the range between two numbers
abbrev pub between : ℤ → ℤ → Range
between low high = record { low = Some low; high = Some high }

-- it is made exactly if the number is within the range, and else the number is returned
pub record IsConstrained {E : _} {g : _} (low high z : ℤ) (r : Result (RangedInteger E g) ℤ) : Type 0 where
  pub value : IfOk r (λ c. constrained_number c ≡ z)
  pub original : IfErr r (λ x. x ≡ z)
  pub fits : is_ok r ≡ is_within (between low high) z
