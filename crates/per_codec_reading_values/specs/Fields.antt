-- Bits taken as a whole: a given number, bits after a normally small length (X.691 11.9.3.4), octets after a length
-- determinant (11.9); and why unknown additions are not skipped (19.8).
use Rattle.std.specs.Prelude.{◌≡◌, ◌↔◌, ℕ, ◌*◌, ◌<◌, ◌/◌, ◌==◌, Bool, List, length}
use Rattle.asn1_model.specs.Form.{exactly, only_if}
use Rattle.asn1_model.specs.Per
use Rattle.asn1_schema_errors.specs.declared.DecodeError.{DecodeError}
use Rattle.asn1_schema_errors.specs.declared.DecodeError.TheVariants.{OutOfMemory}
use Rattle.per_codec_laws.specs.Takes.{Position, Front, Skips}
use Rattle.per_codec_reading.specs.declared.length.Length.{Length}
use Rattle.per_codec_reading.specs.Runs.{bits_in, IsLent}
use Rattle.per_codec_reading.specs.declared.runs.RunBits.{RunBits}
use Rattle.per_codec_reading.specs.Units.{Units, counted_units, piece_form}
use Rattle.per_codec_reading_values.specs.declared.fields.Field.{Field}
use Rattle.per_codec_reading_values.specs.declared.fields.Field.TheVariants.{Bits, Bitmap}

-- A number of bits.
abbrev pub bits_form : ℕ → List Bool → Per.BitForm
bits_form n bs = only_if (length bs == n) (exactly bs)

-- Bits after a normally small length (X.691 11.9.3.4).
abbrev pub few_form : Bool → List Bool → Per.BitForm
few_form al bs = Per.normally_few al (Per.bit_units bs)

-- The bits of octets after a length determinant (X.691 11.9).
abbrev pub octets_form : Bool → List Bool → Per.BitForm
octets_form al bs = counted_units al 8 (length bs / 8, bs)

-- A field of bits.
abbrev pub field_form : Bool → Field → List Bool → Per.BitForm
field_form al (Bits n) bs = bits_form n bs
field_form al Bitmap bs = few_form al bs

-- Bits of a form come next, and this position is after them.
abbrev pub EndsAt : (Per.Freedom → Bool) → Per.BitForm → Position → ℕ → Type 0
EndsAt free x a n = (b : Position) × (b.0 ≡ n) × Front free x a b

-- The bits of octets are borrowed exactly if the octets are in one run (X.691 11.9.3.5 to 11.9.3.7).
abbrev pub LentInOneRun : RunBits → Type 0
LentInOneRun bits = IsLent bits ↔ (length (bits_in bits) < 8 * 16384)

-- Octets come next, after this length determinant.
abbrev pub HasPiece : (Per.Freedom → Bool) → Bool → Length → Position → Position → Type 0
HasPiece free al l a b = (bs : List Bool) × Front free (piece_form al 8 (l, bs)) a b

-- Octets come next, after a length determinant.
abbrev pub HasUnits : (Per.Freedom → Bool) → Bool → Position → Position → Type 0
HasUnits free al a b = (us : Units) × Front free (counted_units al 8 us) a b

-- Why no unknown additions are skipped: memory ran out, or the bits do not begin with them.
abbrev pub NoSkip : (Per.Freedom → Bool) → Bool → List Bool → Position → DecodeError → Type 0
NoSkip free al us a e = ¬ (e ≡ OutOfMemory) → (b : Position) → Skips al free us a b → ⊥
