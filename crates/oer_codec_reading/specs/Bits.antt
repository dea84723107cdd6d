-- BIT STRING of a fixed size, or after a length determinant (X.696 13).
use Rattle.std.specs.Prelude.{ℕ, ◌==◌, Bool, false, List, length, Option, Some, None}
use Rattle.asn1_model.specs.Form.{only_if}
use Rattle.asn1_model.specs.Oer.{OctetForm, bit_string_form, bits_form}

-- A number of bits, and unused bits up to whole octets (X.696 13).
abbrev pub bits_in : ℕ → List Bool → OctetForm
bits_in n bs = only_if (length bs == n) (bits_form bs)

-- Bits of a fixed size without a length determinant, or after it (X.696 13).
unfoldable pub sized_bits : Option ℕ → List Bool → OctetForm
sized_bits (Some n) bs = bits_in n bs
sized_bits None bs = bit_string_form false bs
