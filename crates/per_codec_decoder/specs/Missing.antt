-- How many bits of a string or of an open type are missing.
use Rattle.std.specs.Prelude.{◌≡◌, ◌⊎◌, ◌≤◌, ◌<◌, ℕ, Bool, List, [], ◌++◌, length}
use Rattle.asn1_model.specs.Per
use Rattle.per_codec_laws.specs.Takes.{Position}
use Rattle.per_codec_reading.specs.Fronts.{NoneStands}
use Rattle.per_codec_reading.specs.Units.{count_of}
use Rattle.per_codec_reading.specs.declared.headings.LengthDeterminant.{LengthDeterminant}
use Rattle.per_codec_reading.specs.declared.headings.LengthDeterminant.TheVariants.{Constrained, General}

-- How many units follow a length determinant, before any other one.
abbrev pub count_in : LengthDeterminant → ℕ
count_in (Constrained n) = n
count_in (General l) = count_of l

-- No bits, or, if some are known to be missing, at most as many.
abbrev pub IsFew : ℕ → List Bool → Type 0
IsFew n e = (e ≡ []) ⊎ ((0 < n) × (length e ≤ n))

-- The bits do not begin with one of some forms, even with at most n bits appended, if n bits are known to be missing.
abbrev pub StillTooShort : {X : Type 0} → (Per.Freedom → Bool) → (X → Per.BitForm) → Position → ℕ → Type 0
StillTooShort {X} free f a n = (e : List Bool) → 0 < n → length e ≤ n → NoneStands free f (a.0, a.1 ++ e)
