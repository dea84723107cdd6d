-- Units of one width after a length determinant, as bits, and which fragments may follow one another (X.691 11.9).
use Rattle.std.specs.Prelude.{ℕ, zero, suc, ◌*◌, ◌==◌, ltb, ◌||◌, Bool, true, List, [], ◌∷◌, length, take, drop, map}
use Rattle.asn1_model.specs.Form.{exactly, both, only_if}
use Rattle.asn1_model.specs.Per
use Rattle.per_codec_reading.specs.Lengths.{length_form}
use Rattle.per_codec_reading.specs.declared.length.Length.{Length}
use Rattle.per_codec_reading.specs.declared.length.Length.TheVariants.{Short, Fragment}

-- The number of units, and the bits of all of them.
abbrev pub Units : Type 0
Units = ℕ × List Bool

-- Bits in a number of pieces of a width.
abbrev pub pieces : ℕ → ℕ → List Bool → List (List Bool)
pieces width zero bs = []
pieces width (suc n) bs = take width bs ∷ pieces width n (drop width bs)

-- Each piece is a unit.
abbrev pub units_of : ℕ → ℕ → List Bool → List Per.BitForm
units_of width n bs = map (λ u. exactly u) (pieces width n bs)

-- Units of a width after a length determinant (X.691 11.9).
abbrev pub counted_units : Bool → ℕ → Units → Per.BitForm
counted_units al width us = only_if (length us.1 == us.0 * width) (Per.counted al (units_of width us.0 us.1))

-- Whether this number of units may be after a fragment of a multiple of 16384 units. After a fragment of fewer than
-- 65536 units there is no other fragment, unless any fragments are accepted (X.691 11.9.3.8).
abbrev pub may_follow : Bool → ℕ → ℕ → Bool
may_follow any_fragments multiple n = any_fragments || (multiple == 4 || ltb n 16384)

-- Units of a width after a fragment of a multiple of 16384 units.
abbrev pub units_after : Bool → ℕ → Bool → ℕ → Units → Per.BitForm
units_after any_fragments multiple al width us =
    only_if (may_follow any_fragments multiple us.0) (counted_units al width us)

-- The number of units after a length determinant (X.691 11.9.3.8).
abbrev pub count_of : Length → ℕ
count_of (Short n) = n
count_of (Fragment m) = m * 16384

-- Whether a length determinant may be after a fragment of a multiple of 16384 units (X.691 11.9.3.8).
abbrev pub length_may_follow : Bool → ℕ → Length → Bool
length_may_follow any_fragments multiple (Short n) = true
length_may_follow any_fragments multiple (Fragment m) = any_fragments || multiple == 4

-- A length determinant, and the bits of its units.
abbrev pub Piece : Type 0
Piece = Length × List Bool

-- Units after the length determinant of a fragment, or after a last one (X.691 11.9.3.5 to 11.9.3.8).
abbrev pub piece_form : Bool → ℕ → Piece → Per.BitForm
piece_form al width p = only_if (length p.1 == count_of p.0 * width) (both (length_form al p.0) (exactly p.1))
