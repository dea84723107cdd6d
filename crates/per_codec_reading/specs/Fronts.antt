-- The rules of a reader, and its freedoms; with which forms the unread bits begin, and why a reader refuses them
-- (X.691 11.1 for padding).
use Rattle.std.specs.Prelude.{◌≡◌, ◌+◌, ◌++◌, ◌⊎◌, Bool, true, false, IsTrue, List, length, replicate}
use Rattle.asn1_model.specs.Form.{placed}
use Rattle.asn1_model.specs.Per.{Freedom, BitForm, padding, missing}
use Rattle.asn1_model.specs.Rules.{lenient, strict_per}
use Rattle.asn1_schema_errors.specs.declared.DecodeError.{DecodeError}
use Rattle.asn1_schema_errors.specs.declared.DecodeError.TheVariants.{OutOfMemory, AlreadyFailed}
use Rattle.per_codec_laws.specs.Takes.{Position, Front}
use Rattle.per_codec_rules.specs.Variants
use Rattle.per_codec_rules.specs.declared.variant.Variant.{Variant}
use Rattle.per_codec_rules.specs.declared.variant.Variant.TheVariants.{Unaligned, Aligned}
use Rattle.per_codec_reading.specs.declared.rules.PackedRules.{PackedRules}
use Rattle.per_codec_reading.specs.declared.rules.PackedRules.TheVariants.{Uper, Aper, UperStrict, AperStrict}

-- The variant of PER.
abbrev pub variant_of : PackedRules → Variant
variant_of Uper = Unaligned
variant_of Aper = Aligned
variant_of UperStrict = Unaligned
variant_of AperStrict = Aligned

-- Whether padding bits precede some fields, so that these begin at an octet boundary (X.691 11.1).
abbrev pub is_aligned : PackedRules → Bool
is_aligned r = Variants.is_aligned (variant_of r)

-- Whether a reader has only the freedoms of strict rules (`strict_per`).
abbrev pub is_strict : PackedRules → Bool
is_strict Uper = false
is_strict Aper = false
is_strict UperStrict = true
is_strict AperStrict = true

-- What a reader under these rules accepts besides the canonical form.
abbrev pub freedoms : PackedRules → Freedom → Bool
freedoms Uper = lenient
freedoms Aper = lenient
freedoms UperStrict = strict_per
freedoms AperStrict = strict_per

-- These bits come first, and the others are left.
abbrev pub Leads : List Bool → Position → Position → Type 0
Leads w old new = (w ++ new.1 ≡ old.1) × (old.0 + length w ≡ new.0)

-- The bits begin with none of some forms, whatever follows.
abbrev pub NoneStands : {X : Type 0} → (Freedom → Bool) → (X → BitForm) → Position → Type 0
NoneStands {X} free f old = (x : X) (new : Position) → Front free (f x) old new → ⊥

-- A reader's own reason: it does not say that an earlier call failed.
abbrev pub IsFresh : DecodeError → Type 0
IsFresh e = ¬ (e ≡ AlreadyFailed)

-- Why a reader of some forms fails: memory ran out, or the bits begin with none of them. It is never that an earlier
-- call failed.
abbrev pub Misses : {X : Type 0} → (Freedom → Bool) → (X → BitForm) → Position → DecodeError → Type 0
Misses free f old OutOfMemory = Unit {0}
Misses free f old AlreadyFailed = ⊥
Misses free f old e = NoneStands free f old

-- Where one form leads from a position to the old one, another leads from there to the new one.
abbrev pub Completes : (Freedom → Bool) → BitForm → BitForm → Position → Position → Type 0
Completes free first whole old new = (a : Position) → Front free first a old → Front free whole a new

-- Why a reader that continues after a form fails: none of the forms comes next where that form began.
abbrev pub MissesRest : {X : Type 0} → (Freedom → Bool) → BitForm → (X → BitForm) → Position → DecodeError → Type 0
MissesRest free first f old e = (a : Position) → Front free first a old → Misses free f a e

-- A reader accepts these padding bits: they are zero, or it accepts any (X.691 11.1).
abbrev pub ArePadding : Bool → List Bool → Type 0
ArePadding any_padding bs = (bs ≡ replicate (length bs) false) ⊎ IsTrue any_padding

-- The padding to the next octet boundary (X.691 11.1).
abbrev pub to_octet : BitForm
to_octet = placed (λ p. padding (missing p))
