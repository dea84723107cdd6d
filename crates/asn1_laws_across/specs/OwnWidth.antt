-- Encodings in which each presence bitmap has the width of its type, and the elements of each SET OF ascend.
use Rattle.std.specs.Prelude.{◌≡◌, ◌⊎◌, ℕ, ◌+◌, ◌^◌, ◌<◌, Bool, true, false, IsTrue, List, length, Option, Some}
use Rattle.asn1_model.specs.Value.{Value}
use Rattle.asn1_model.specs.Schema.{Schema}
use Rattle.asn1_model.specs.Form.{Form, exactly, refused, both, placed, varied, within, Reads, Bitmap, covered_by}
use Rattle.asn1_model.specs.Rules.{Rules, uper, aper, uper_strict, aper_strict, oer, coer, octet_bits, IsEncoding}
use Rattle.asn1_model.specs.Rules.{lenient, strict_per, strict_oer}
use Rattle.asn1_model.specs.Per
use Rattle.asn1_model.specs.Oer
use Rattle.asn1_laws_across.specs.InOrder.{ReadsWith, HasAscendingBag, HasAscendingOctetBag}

-- A SEQUENCE or SET with an extension marker, and the form in which its bitmap has one bit for each addition of the
-- type (X.691 19.7).
abbrev pub HasOwnBitmap : Bool → Per.BitForm → Per.BitForm → Type 0
HasOwnBitmap al x y =
    (ms : List Bool) × (root : Per.BitForm) × (xs : List (Option Per.BitForm)) × (all : List (Option Per.BitForm))
    × (b : Bitmap) × (x ≡ Per.sequence_form al true ms root xs) × (y ≡ Per.bitmapped al ms root xs (Some b))
    × (covered_by (λ os. Per.counted_octets al os) b xs ≡ Some all) × (length all ≡ length xs)

-- The same in the octet rules (X.696 16.4).
abbrev pub HasOwnOctetBitmap : Oer.OctetForm → Oer.OctetForm → Type 0
HasOwnOctetBitmap x y =
    (ms : List Bool) × (root : Oer.OctetForm) × (xs : List (Option Oer.OctetForm)) × (all : List (Option Oer.OctetForm))
    × (b : Bitmap) × (x ≡ Oer.sequence_form true ms root xs) × (y ≡ Oer.bitmapped ms root xs (Some b))
    × (covered_by Oer.counted b xs ≡ Some all) × (length all ≡ length xs)

-- A detail that its definition need not make the canonical one, though the encoding is: the order of a SET OF whose
-- elements ascend, and a bitmap of the type's width.
abbrev pub IsAlikeHere : Bool → Per.BitForm → Per.BitForm → Type 0
IsAlikeHere al x y = HasAscendingBag al x y ⊎ HasOwnBitmap al x y

abbrev pub AreOctetsAlikeHere : Oer.OctetForm → Oer.OctetForm → Type 0
AreOctetsAlikeHere x y = HasAscendingOctetBag x y ⊎ HasOwnOctetBitmap x y

-- All of the octets are one encoding of the value, canonical except for bitmaps and for the order of the elements of
-- each SET OF, where each bitmap has the width of its type and these elements ascend.
unfoldable pub IsEncodingOfOwnWidth : Rules → Schema → Value → List ℕ → Type 0
IsEncodingOfOwnWidth uper s v w =
    (length w < 2 ^ 60) × ReadsWith (IsAlikeHere false) (Per.message false s v) 0 (octet_bits w)
IsEncodingOfOwnWidth uper_strict s v w =
    (length w < 2 ^ 60) × ReadsWith (IsAlikeHere false) (Per.message false s v) 0 (octet_bits w)
IsEncodingOfOwnWidth aper s v w =
    (length w < 2 ^ 60) × ReadsWith (IsAlikeHere true) (Per.message true s v) 0 (octet_bits w)
IsEncodingOfOwnWidth aper_strict s v w =
    (length w < 2 ^ 60) × ReadsWith (IsAlikeHere true) (Per.message true s v) 0 (octet_bits w)
IsEncodingOfOwnWidth r s v w = (length w < 2 ^ 60) × ReadsWith AreOctetsAlikeHere (Oer.form s v) 0 w

-- ---- what a reader finds

-- Of a reading: wherever the reader has a freedom, the detail is the canonical one, or what is made with it is allowed.
unfoldable pub Meets : {F : Type 0} {D : F → Type 0} {A : Type 0} (free : F → Bool)
    → (Form F D A → Form F D A → Type 0) → (x : Form F D A) (p : ℕ) (w : List A) → Reads free x p w → Type 0
unfolding Reads
Meets free may (exactly l) p w h = Unit {0}
Meets free may refused p w h = Unit {0}
Meets free may (both x y) p w h = Meets free may x p h.0 h.2 × Meets free may y (p + length h.0) h.1 h.3
Meets free may (placed f) p w h = Meets free may (f p) p w h
Meets free may (varied c d f) p w h =
    (IsTrue (free c) → (h.0 ≡ d) ⊎ may (varied c d f) (f h.0)) × Meets free may (f h.0) p w h.2
Meets free may (within x f) p w h = Meets free may x 0 h.0 h.1 × Meets free may (f h.0) p w h.2

-- In an encoding that the reader of these rules accepts, each bitmap of additions has the width of its type, the
-- elements of each SET OF ascend, and no other freedom of the reader is used.
unfoldable pub HasOwnWidths : (r : Rules) (s : Schema) (v : Value) (w : List ℕ) → IsEncoding r s v w → Type 0
unfolding IsEncoding
HasOwnWidths uper s v w h = Meets lenient (IsAlikeHere false) (Per.message false s v) 0 (octet_bits w) h.1
HasOwnWidths aper s v w h = Meets lenient (IsAlikeHere true) (Per.message true s v) 0 (octet_bits w) h.1
HasOwnWidths uper_strict s v w h = Meets strict_per (IsAlikeHere false) (Per.message false s v) 0 (octet_bits w) h.1
HasOwnWidths aper_strict s v w h = Meets strict_per (IsAlikeHere true) (Per.message true s v) 0 (octet_bits w) h.1
HasOwnWidths oer s v w h = Meets lenient AreOctetsAlikeHere (Oer.form s v) 0 w h.1
HasOwnWidths coer s v w h = Meets strict_oer AreOctetsAlikeHere (Oer.form s v) 0 w h.1
