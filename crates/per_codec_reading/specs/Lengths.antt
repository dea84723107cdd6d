-- General length determinants (X.691 11.9.3.5 to 11.9.3.8), and numbers within a bound (11.5).
use Rattle.std.specs.Prelude.{ℕ, ◌≤◌, ◌<◌, ◌^◌, leb, ltb, ◌&&◌, Bool, true, [], ◌∷◌}
use Rattle.asn1_model.specs.Numbers.{binary}
use Rattle.asn1_model.specs.Form.{exactly, only_if, both}
use Rattle.asn1_model.specs.Per.{BitForm, at_octet, short_length}
use Rattle.per_codec_reading.specs.Fronts.{to_octet}
use Rattle.per_codec_reading.specs.declared.length.Length.{Length}
use Rattle.per_codec_reading.specs.declared.length.Length.TheVariants.{Short, Fragment}

-- A length below 16384 (X.691 11.9.3.5 to 11.9.3.7), or that of a fragment of one to four times 16384 units (X.691
-- 11.9.3.8).
abbrev pub length_form : Bool → Length → BitForm
length_form al (Short n) = short_length al n
length_form al (Fragment m) = only_if (leb 1 m && leb m 4) (at_octet al (exactly (true ∷ true ∷ binary 6 m)))

-- How large lengths are.
abbrev pub IsLength : Length → Type 0
IsLength (Short n) = n < 16384
IsLength (Fragment m) = (1 ≤ m) × (m ≤ 4)

-- A number in a number of bits that is not above a largest one.
abbrev pub number_within : ℕ → ℕ → ℕ → BitForm
number_within bits most n = only_if (leb n most && ltb n (2 ^ bits)) (exactly (binary bits n))

-- The same, octet-aligned in the aligned variant.
abbrev pub aligned_within : Bool → ℕ → ℕ → ℕ → BitForm
aligned_within al bits most n = at_octet al (number_within bits most n)

-- The same as number_within, with padding after it.
abbrev pub padded_within : ℕ → ℕ → ℕ → BitForm
padded_within bits most n = both (number_within bits most n) to_octet

-- A single bit.
abbrev pub one_bit : Bool → BitForm
one_bit b = exactly (b ∷ [])
