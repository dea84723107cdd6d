-- How an `Integer` is stored.
use Rattle.std.specs.Prelude.{◌≡◌, ℕ, ◌<◌, ◌≤◌, ◌^◌, ℤ, false, List}
use Rattle.std.specs.List.{AllByRecursion}
use Rattle.asn1_values_integers.specs.declared.integer.IntegerKind.{IntegerKind}
use Rattle.asn1_values_integers.specs.declared.integer.IntegerKind.TheVariants.{Primitive, Short, Long}
use Rattle.asn1_values_natives.specs.Octets.{signed_number, is_padded, plain}

-- the integer that is stored
abbrev pub kept_number : IntegerKind → ℤ
kept_number (Primitive z) = z
kept_number (Short os) = signed_number os
kept_number (Long os) = signed_number os.items

-- the fewest octets of a number that is not small
pub record AreFewest (least : ℕ) (os : List ℕ) : Type 0 where
  pub fewest : is_padded os ≡ false
  pub large : least ≤ plain (signed_number os)
  pub octets : AllByRecursion (λ o. o < 256) os

-- no smaller kind fits: octets are stored only for numbers outside 128 bits, and in a vector only for those outside
-- -2^128 to 2^128 - 1
abbrev pub IsSmallest : IntegerKind → Type 0
IsSmallest (Primitive z) = Unit {0}
IsSmallest (Short os) = AreFewest (2 ^ 127) os
IsSmallest (Long os) = AreFewest (2 ^ 128) os.items
