-- The extension additions of a SEQUENCE or SET that are still to come (X.691 19.7).
use Rattle.std.specs.Prelude.{◌≡◌, Bool, List, ◌∷◌, drop}
use Rattle.asn1_schema_reading_laws.specs.PresenceBits.{first_bits}
use Rattle.per_codec_decoder.specs.declared.additions.Additions.{Additions}

-- The presence bits of the type's additions; those after the end of the bitmap are absent.
abbrev pub own_presence : Additions → List Bool
own_presence a = first_bits a.left a.bitmap.place.1

-- The presence bits of unknown additions.
abbrev pub unknown_presence : Additions → List Bool
unknown_presence a = drop a.left a.bitmap.place.1

-- This is the next presence bit.
abbrev pub HasNextBit : Bool → Additions → Additions → Type 0
HasNextBit v old new = (own_presence old ≡ v ∷ own_presence new) × (unknown_presence new ≡ unknown_presence old)
