-- INTEGER (X.691 13): in octets after a length determinant (11.7, 11.8), and under a value constraint.
use Rattle.std.specs.Prelude.{ℕ, ◌^◌, ◌==◌, ltb, not, ◌&&◌, ◌||◌, cond, ℤ, Bool, true, false, List, ◌∷◌, length}
use Rattle.asn1_values_natives.specs.Octets.{is_padded}
use Rattle.asn1_model.specs.Schema.{wide_range}
use Rattle.asn1_model.specs.Numbers.{is_within}
use Rattle.asn1_model.specs.Form.{only_if}
use Rattle.asn1_model.specs.Per.{BitForm, counted_octets, semi_constrained, unconstrained, whole_number}
use Rattle.asn1_model.specs.Per.{with_extension_bit}
use Rattle.asn1_schema_constraints.specs.Bounds.{range_of, lower, upper}
use Rattle.asn1_schema_constraints.specs.declared.bounds.Bounded.{Bounded}
use Rattle.asn1_schema_constraints.specs.Sets.{has_additions}
use Rattle.asn1_schema_constraints.specs.declared.extensions.Extensible.{Extensible}
use Rattle.asn1_schema_constraints.specs.declared.parts.Value.{Value}

-- Whether the first octet of a number, signed or unsigned, is redundant (X.691 11.7 and 11.8).
abbrev pub has_spare : Bool → List ℕ → Bool
has_spare true os = is_padded os
has_spare false (a ∷ b ∷ os) = a == 0
has_spare false os = false

-- The octets of a number, signed or unsigned, after a length determinant (X.691 11.7 and 11.8): at least one, and the
-- first one is not redundant, unless redundant octets are accepted.
abbrev pub number_octets : Bool → Bool → Bool → List ℕ → BitForm
number_octets any_octets signed al os =
    only_if (ltb 0 (length os) && (any_octets || not (has_spare signed os))) (counted_octets al os)

-- A number in a form, if it fits in 128 bits of two's complement.
abbrev pub in_128_bits : (ℤ → BitForm) → ℤ → BitForm
in_128_bits form v = only_if (is_within wide_range v) (form v)

-- Whether the offset of a number from its lower bound fits in 128 bits.
abbrev pub is_offset : ℕ → Bool
is_offset n = ltb n (2 ^ 128)

-- The offset of a number from its lower bound, if it fits in 128 bits (X.691 11.7).
abbrev pub offset_form : Bool → ℕ → BitForm
offset_form al n = only_if (is_offset n) (semi_constrained al n)

-- What follows the extension bit: a number by the bounds, or outside them.
abbrev pub behind_extension_bit : Bool → Bool → Bounded ℤ → ℤ → BitForm
behind_extension_bit al out b v = cond out (unconstrained al v) (whole_number al (lower b) (upper b) v)

-- A number under a value constraint: by its bounds, or after an extension bit of 1 (X.691 13.1 and 13.2).
abbrev pub under_constraint : Bool → Extensible Value → ℤ → BitForm
under_constraint al c v = with_extension_bit (has_additions c) (is_within (range_of c.constraint.value) v)
    (whole_number al (lower c.constraint.value) (upper c.constraint.value) v) (unconstrained al v)
