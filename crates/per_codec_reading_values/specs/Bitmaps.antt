-- The presence bitmap of extension additions, and why there is none (X.691 19.7 and 19.8).
use Rattle.std.specs.Prelude.{◌≡◌, ◌⊎◌, Bool, IsTrue, true, false, List, []}
use Rattle.asn1_model.specs.Per
use Rattle.asn1_schema_errors.specs.declared.DecodeError.{DecodeError}
use Rattle.asn1_schema_errors.specs.declared.DecodeError.TheVariants.{OutOfMemory}
use Rattle.asn1_schema_reading_laws.specs.PresenceBits.{is_any_set}
use Rattle.per_codec_laws.specs.Takes.{Position, Front}

-- The bitmap of additions (X.691 19.7), where the extension bit is set: a bit of it is set, unless a reader accepts
-- any.
abbrev pub HasBitmap : (Per.Freedom → Bool) → Bool → Bool → List Bool → Position → Position → Type 0
HasBitmap free al false bs a b = (bs ≡ []) × (b ≡ a)
HasBitmap free al true bs a b = ((is_any_set bs ≡ true) ⊎ IsTrue (free Per.empty_bitmap))
    × Front free (Per.normally_few al (Per.bit_units bs)) a b

-- Why there is none: memory ran out, or the input does not begin with one.
abbrev pub NoBitmap : (Per.Freedom → Bool) → Bool → Bool → Position → DecodeError → Type 0
NoBitmap free al m a x = ¬ (x ≡ OutOfMemory) → (bs : List Bool) (b : Position) → HasBitmap free al m bs a b → ⊥
