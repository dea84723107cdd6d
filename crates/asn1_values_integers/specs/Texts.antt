-- How an integer is printed.
use Rattle.std.specs.Prelude.{ℕ, ◌-◌, ◌/◌, ◌%◌, ◌^◌, ℤ, List, [], ◌∷◌, ◌++◌, false, if◌then◌else◌, codes}
use Rattle.std.specs.List.{flat_map}
use Rattle.std.specs.Fmt.{signed_decimal, digit_glyph}
use Rattle.asn1_model.specs.Numbers.{is_within}
use Rattle.asn1_values_natives.specs.Octets.{signed_octets_of}
use Rattle.asn1_values_natives.specs.Ranges.{whole_range}

-- two lower-case hexadecimal digits of an octet
abbrev pub octet_text : ℕ → List ℕ
octet_text o = digit_glyph false (o / 16) ∷ digit_glyph false (o % 16) ∷ []

-- in decimal if 128 bits hold the number, else by its fewest octets of two's complement
abbrev pub number_text : ℤ → List ℕ
number_text z = if is_within (whole_range (2 ^ 127 - 1)) z then signed_decimal z
    else (codes "0x" ++ flat_map octet_text (signed_octets_of z))

-- the message for a number that a type does not hold
abbrev pub refusal_text : ℤ → List ℕ
refusal_text z = number_text z ++ codes " is outside the range of its type"
