-- Tags that are read (X.696 8.7).
use Rattle.std.specs.Prelude.{ℕ, ◌+◌, ◌*◌, ◌%◌, ◌^◌, ◌==◌, leb, ltb, Bool, cond, ◌&&◌, ◌||◌, List, [], ◌∷◌, Option}
use Rattle.std.specs.Prelude.{Some, None}
use Rattle.asn1_model.specs.Schema.{Tag}
use Rattle.asn1_model.specs.Form.{only_if}
use Rattle.asn1_model.specs.Oer.{OctetForm, tag_form}
use Rattle.asn1_model.specs.Strings.{is_octet}

-- Whether the number of a tag fits in 32 bits.
abbrev pub is_in_32_bits : Tag → Bool
is_in_32_bits t = ltb t.number (2 ^ 32)

-- A tag whose number fits in 32 bits (X.696 8.7).
abbrev pub tag_in : Tag → OctetForm
tag_in t = only_if (is_in_32_bits t) (tag_form t)

-- Whether a group of seven bits may not follow those of a number, 0 if there are none: it is a leading zero group, or
-- the result does not fit in 32 bits.
abbrev pub is_wrong_group : ℕ → ℕ → Bool
is_wrong_group n g = (n == 0 && g == 0) || leb (2 ^ 25) n

-- The number whose further groups of seven bits, after those of `n`, are first in the octets, and the octets after
-- them (X.696 8.7.2.3).
abbrev pub number_behind : ℕ → List ℕ → Option (ℕ × List ℕ)
number_behind n [] = None
number_behind n (o ∷ os) =
    cond (is_wrong_group n (o % 128)) None (cond (ltb o 128) (Some (n * 128 + o % 128, os))
    (cond (is_octet o) (number_behind (n * 128 + o % 128) os) None))
