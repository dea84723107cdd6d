-- The ranges of the integer types.
use Rattle.std.specs.Prelude.{ℕ, ◌+◌, ◌-◌, ◌*◌, ◌%◌, ◌^◌, ◌==◌, ℤ, pos, negsuc, ◌+ℤ◌, ◌-ℤ◌, Bool, true, false, None}
use Rattle.std.specs.Prelude.{Some}
use Rattle.asn1_model.specs.Schema.{Range}

-- from zero to a greatest number
abbrev pub natural_range : ℕ → Range
natural_range greatest = record { low = Some (pos 0); high = Some (pos greatest) }

-- from -1 - the greatest number to the greatest number
abbrev pub whole_range : ℕ → Range
whole_range greatest = record { low = Some (negsuc greatest); high = Some (pos greatest) }

-- the range of an integer type with a greatest number
abbrev pub range_of : Bool → ℕ → Range
range_of false greatest = natural_range greatest
range_of true greatest = whole_range greatest

-- the greatest number of a given number of bits, one of which is the sign if the type is signed
abbrev pub greatest_of : Bool → ℕ → ℕ
greatest_of false bits = 2 ^ bits - 1
greatest_of true bits = 2 ^ (bits - 1) - 1

-- the range of an integer type with a number of bits; 2 ^ 32 - 1 bits if it is unlimited
abbrev pub range_of_width : Bool → ℕ → Range
range_of_width signed width = elim (width == 2 ^ 32 - 1)
    [ true ↦ record { low = None; high = None } | false ↦ range_of signed (greatest_of signed width) ]

-- the remainder of an integer modulo a positive number, not negative
abbrev pub remainder : ℤ → ℕ → ℕ
remainder (pos n) count = n % count
remainder (negsuc n) count = count - 1 - n % count

-- a number reduced into such a range modulo the count of its numbers
abbrev pub wrapped : Bool → ℕ → ℤ → ℤ
wrapped false greatest z = pos (remainder z (greatest + 1))
wrapped true greatest z = pos (remainder (z +ℤ pos (greatest + 1)) (2 * (greatest + 1))) -ℤ pos (greatest + 1)
