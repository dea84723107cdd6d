-- INTEGER in a fixed number of octets, or after a length determinant (X.696 10), and counts (17).
use Rattle.std.specs.Prelude.{ℕ, ◌^◌, ◌==◌, leb, ltb, ℤ, Bool, true, false, cond, ◌||◌, List}
use Rattle.std.specs.Prelude.{◌∷◌, Option, Some, None}
use Rattle.asn1_model.specs.Schema.{Bounds}
use Rattle.asn1_model.specs.Numbers.{octet_width, signed_octets}
use Rattle.asn1_model.specs.Form.{only_if}
use Rattle.asn1_model.specs.Oer.{OctetForm, natural_form, signed_form, unsigned}
use Rattle.asn1_values_natives.specs.Octets.{is_padded, plain}
use Rattle.asn1_schema_constraints.specs.Widths.{has_sign, fixed_width}

-- Whether this many octets, signed or unsigned, hold a number; after a length determinant any number fits.
abbrev pub holds : Bool → Option ℕ → ℤ → Bool
holds sign None v = true
holds true (Some k) v = leb (signed_octets v) k
holds false (Some k) v = leb (octet_width (plain v)) k

-- A number in a fixed number of octets, or after a length determinant (X.696 10).
unfoldable pub number_in : Bool → Option ℕ → ℤ → OctetForm
number_in sign width v = only_if (holds sign width v) (cond sign (signed_form width v) (natural_form width v))

-- Whether the first octet of a number is redundant (X.690 8.3.2).
abbrev pub has_spare : Bool → List ℕ → Bool
has_spare true os = is_padded os
has_spare false (a ∷ b ∷ os) = a == 0
has_spare false os = false

-- Whether numbers under bounds are signed (X.696 10).
abbrev pub sign_under : Bounds → Bool
sign_under b = b.extensible || has_sign b.range.low

-- Their number of octets, if that is fixed (X.696 10).
abbrev pub width_under : Bounds → Option ℕ
width_under b = cond b.extensible None (fixed_width b.range.low b.range.high)

-- A count that fits in 64 bits (X.696 17).
abbrev pub count_in : ℕ → OctetForm
count_in n = only_if (ltb n (2 ^ 64)) (unsigned n)
