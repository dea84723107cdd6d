-- Bounds of the native integer types, as value constraints (X.680 51.4).
use Rattle.std.specs.Prelude.{◌≡◌, ℕ, ℤ, pos, Bool, true, ltb, ◌^◌, ◌&&◌, Option, Some, None, option_map, Result}
use Rattle.std.specs.Result.{OkIff}
use Rattle.std.specs.declared.num.TryFromIntError.{TryFromIntError}
use Rattle.asn1_schema_constraints.specs.Bounds.{lower, upper}
use Rattle.asn1_schema_constraints.specs.declared.bounds.Bounded.{Bounded}
use Rattle.asn1_schema_constraints.specs.declared.bounds.Bounded.TheVariants.{None as Unbounded, Single}
use Rattle.asn1_schema_constraints.specs.declared.bounds.Bounded.TheVariants.{Range as Between}
use Rattle.asn1_schema_constraints.specs.declared.parts.Value.{Value}

-- The same bounds as bounds of numbers that may be negative.
abbrev pub of_naturals : Bounded ℕ → Bounded ℤ
of_naturals Unbounded = Unbounded
of_naturals (Single n) = Single (pos n)
of_naturals (Between start end) = Between (option_map pos start) (option_map pos end)

-- 128 bits of two's complement hold an end, if there is one.
abbrev pub is_held : Option ℕ → Bool
is_held None = true
is_held (Some n) = ltb n (2 ^ 127)

-- 128 bits of two's complement hold both ends.
abbrev pub are_held : Bounded ℕ → Bool
are_held b = is_held (lower b) && is_held (upper b)

-- The result is the constraint to these bounds, exactly if 128 bits of two's complement hold both ends.
abbrev pub IsOfNaturals : Bounded ℕ → Result Value TryFromIntError → Type 0
IsOfNaturals b answer = OkIff answer (are_held b ≡ true) (record { value = of_naturals b })
