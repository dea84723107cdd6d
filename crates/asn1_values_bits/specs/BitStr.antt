-- The bits of a view.
use Rattle.std.specs.Prelude.{ℕ, ◌%◌, Bool, List, take, drop}
use Rattle.asn1_model.specs.Numbers.{octet_bits}
use Rattle.asn1_values_bits.specs.declared.bit_str.BitStr.{BitStr}

-- the bits that a view shows
unfoldable pub bits_of : BitStr → List Bool
bits_of s = take s.len (drop s.first (octet_bits s.octets.now))

-- the bit of an octet at which the view begins
unfoldable pub offset_of : BitStr → ℕ
offset_of s = s.first % 8
