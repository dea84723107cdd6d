-- What has begun and has not ended, as a decoder of OER (X.696) holds it.
use Rattle.std.specs.Prelude.{◌≡◌, ℕ, suc, ◌+◌, Bool, List, [], ◌∷◌, drop, map, Option, Some, None}
use Rattle.asn1_schema_reading_laws.specs.PresenceBits.{first_bits}
use Rattle.asn1_values_bits.specs.BitStr.{bits_of}
use Rattle.oer_codec_laws.specs.Takes.{Scope, components, added, open_type, members, alternative}
use Rattle.oer_codec_decoder.specs.declared.additions.Additions.{Additions}
use Rattle.oer_codec_decoder.specs.declared.frames.Enclosing.{Enclosing}
use Rattle.oer_codec_decoder.specs.declared.frames.Enclosing.TheVariants.{Alternative as EnclosingAlternative}
use Rattle.oer_codec_decoder.specs.declared.frames.Enclosing.TheVariants.{OpenType as EnclosingOpenType}
use Rattle.oer_codec_decoder.specs.declared.frames.Frame.{Frame}
use Rattle.oer_codec_decoder.specs.declared.frames.Frame.TheVariants.{Components, Added, OpenType, Members, Alternative}

-- The presence bits of the type's additions that are still to come; those after the end of the bitmap are 0.
abbrev pub own_presence : Additions → List Bool
own_presence a = first_bits a.left (bits_of a.bitmap)

-- The presence bits of unknown additions.
abbrev pub unknown_presence : Additions → List Bool
unknown_presence a = drop a.left (bits_of a.bitmap)

-- An open scope.
abbrev pub scope_of : Frame → Scope
scope_of (Components x r) = components x (bits_of r)
scope_of (Added a) = added (own_presence a) (unknown_presence a)
scope_of (OpenType behind) = open_type behind
scope_of (Members n) = members n
scope_of Alternative = alternative

-- The frame of a scope that contains a single value.
abbrev pub frame_of : Enclosing → Frame
frame_of EnclosingAlternative = Alternative
frame_of (EnclosingOpenType behind) = OpenType behind

-- The open scopes, the innermost first: one that contains a single value, if there is one, and those that frames
-- represent.
abbrev pub scopes_of : Option Enclosing → List Frame → List Scope
scopes_of None fs = map scope_of fs
scopes_of (Some e) fs = scope_of (frame_of e) ∷ map scope_of fs

-- The open scopes, if a number outside the frames says how many elements of the innermost list are still to come.
abbrev pub with_due : ℕ → List Scope → List Scope
with_due (suc n) (members m ∷ k) = members (suc n) ∷ k
with_due n k = k

-- The next presence bit of an addition.
abbrev pub NextPresent : Bool → List Scope → List Scope → Type 0
NextPresent v (added (m ∷ ms) us ∷ k) after = (v ≡ m) × (after ≡ added ms us ∷ k)
NextPresent v k after = ⊥

-- The number of elements that are still to come in frames, the outermost first, up to the first open type.
abbrev pub owing : List Frame → ℕ
owing [] = 0
owing (OpenType behind ∷ fs) = 0
owing (Members n ∷ fs) = n + owing fs
owing (f ∷ fs) = owing fs
