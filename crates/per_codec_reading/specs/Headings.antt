-- Units under a size constraint, and what precedes them: an extension bit, if there is one, and the first length
-- determinant (X.691 11.9.4, 16, 17, 20, 22 and 30).
use Rattle.std.specs.Prelude.{ℕ, ◌-◌, ◌*◌, ◌==◌, ◌<◌, leb, not, ◌&&◌, ◌||◌, Bool, true, List, ◌∷◌, length}
use Rattle.std.specs.Prelude.{Option, Some, None, false}
use Rattle.asn1_model.specs.Schema.{Counts, Size}
use Rattle.asn1_model.specs.Numbers.{is_count_within}
use Rattle.asn1_model.specs.Form.{exactly, both, only_if, refused}
use Rattle.asn1_model.specs.Per
use Rattle.per_codec_laws.specs.Sizes.{extension_bit, told_highest}
use Rattle.per_codec_reading.specs.Lengths.{length_form, IsLength}
use Rattle.per_codec_reading.specs.Units.{Units, units_of, counted_units}
use Rattle.per_codec_reading.specs.declared.sized.Contents.{Contents}
use Rattle.per_codec_reading.specs.declared.sized.Contents.TheVariants.{Strings, Characters}
use Rattle.per_codec_reading.specs.declared.headings.Heading.{Heading}
use Rattle.per_codec_reading.specs.declared.headings.LengthDeterminant.{LengthDeterminant}
use Rattle.per_codec_reading.specs.declared.headings.LengthDeterminant.TheVariants.{Constrained, General}

-- Whether units after a length determinant that bounds determine are octet-aligned (X.691 16, 17 and 30.5.6).
abbrev pub contents_have_padding : Contents → ℕ → ℕ → Counts → Bool
contents_have_padding Strings unit n c = Per.string_has_padding unit n c
contents_have_padding Characters unit n c = Per.characters_have_padding unit n c

-- A number from a lowest to a highest one (X.691 11.9.4.1).
abbrev pub told_count : Bool → ℕ → ℕ → ℕ → Per.BitForm
told_count al low high n = only_if (leb low n && leb n high) (Per.constrained al (high - low) (n - low))

-- The first length determinant, by whether an upper bound determines its form (X.691 11.9.4).
abbrev pub determinant_form : Bool → Counts → Option ℕ → LengthDeterminant → Per.BitForm
determinant_form al c None (General l) = length_form al l
determinant_form al c (Some high) (Constrained n) = told_count al c.low high n
determinant_form al c told d = refused

-- How large length determinants are.
abbrev pub IsDeterminant : LengthDeterminant → Type 0
IsDeterminant (Constrained n) = n < 65536
IsDeterminant (General l) = IsLength l

-- A number of units after it is in one run.
abbrev pub HoldsOneRun : LengthDeterminant → ℕ → Type 0
HoldsOneRun (Constrained n) k = Unit {0}
HoldsOneRun (General l) k = k < 16384

-- What precedes the units under a size constraint: an extension bit, if there is one, and the first length
-- determinant.
abbrev pub heading_form : Bool → Size → Heading → Per.BitForm
heading_form al z h = both (extension_bit z.extensible h.is_outside)
    (determinant_form al z.counts (told_highest h.is_outside z.counts.high) h.determinant)

-- The extension bit at the start, if a size has one.
abbrev pub is_outside : Bool → List Bool → Bool
is_outside true (b ∷ bs) = b
is_outside e bs = false

-- The upper bound, if it determines the form of the length determinant that comes next.
abbrev pub told_in_front : Size → List Bool → Option ℕ
told_in_front z bs = told_highest (is_outside z.extensible bs) z.counts.high

-- Units after a length determinant that bounds determine.
abbrev pub units_by_count : Bool → ℕ → (ℕ → Counts → Bool) → Counts → ℕ → Units → Per.BitForm
units_by_count al width has_padding c high us = only_if (length us.1 == us.0 * width)
    (both (told_count al c.low high us.0) (Per.at_octet (al && has_padding us.0 c) (exactly us.1)))

-- Units after a length determinant that an upper bound determines, or after a general one.
abbrev pub units_by_length : Bool → ℕ → (ℕ → Counts → Bool) → Counts → Option ℕ → Units → Per.BitForm
units_by_length al width has_padding c None us = counted_units al width us
units_by_length al width has_padding c (Some high) us = units_by_count al width has_padding c high us

-- Units under a size constraint that may be extensible (X.691 16, 17 and 30).
abbrev pub sized_units : Bool → Size → Counts → ℕ → (ℕ → Counts → Bool) → Units → Per.BitForm
sized_units al z held width has_padding us = only_if (length us.1 == us.0 * width)
    (Per.sized al z held (has_padding us.0) (units_of width us.0 us.1))

-- Whether an extension bit is accepted: it does not say that a value in the root is outside it, or that is accepted
-- (X.691 13.1, 16.6, 17.3, 20.4 and 30.4).
abbrev pub may_be_outside : Bool → Bool → Bool → Bool
may_be_outside any_bit outside in_root = any_bit || not (outside && in_root)

-- Whether the Rust type holds this many units, and they are in the root or said to be outside it (X.680 51.5).
abbrev pub admitted : Counts → Counts → Bool → ℕ → Bool
admitted held root outside n = is_count_within held n && (outside || is_count_within root n)
