-- Enumeration values as they are read (X.696 11).
use Rattle.std.specs.Prelude.{ℕ, ◌-◌, ◌^◌, ltb, ℤ, Bool, cond, List, [], ◌∷◌, Option, Some, None}
use Rattle.asn1_model.specs.Numbers.{is_within}
use Rattle.asn1_values_natives.specs.Octets.{is_padded}
use Rattle.asn1_values_natives.specs.Ranges.{whole_range}

-- Whether the octets of an enumeration value in the long form are more than needed: the first is redundant, or one
-- octet holds it.
abbrev pub is_longer : List ℕ → Bool
is_longer (o ∷ []) = ltb o 128
is_longer os = is_padded os

-- A number, if it fits in 64 bits of two's complement.
abbrev pub native_of : ℤ → Option ℤ
native_of v = cond (is_within (whole_range (2 ^ 63 - 1)) v) (Some v) None
