-- Encodings in which the elements of each SET OF ascend.
use Rattle.std.specs.Prelude.{◌≡◌, ◌⊎◌, ℕ, ◌+◌, ◌^◌, ◌<◌, ltb, Bool, true, false, List, [], ◌∷◌, ◌++◌, length}
use Rattle.std.specs.Prelude.{Some}
use Rattle.asn1_model.specs.Value.{Value, bag, Values, each}
use Rattle.asn1_model.specs.Schema.{Counts, Size, Schema, set_of}
use Rattle.asn1_model.specs.Form.{Form, exactly, refused, both, placed, varied, within, written, arranged, ascending}
use Rattle.asn1_model.specs.Form.{stands_before}
use Rattle.asn1_model.specs.Lawful.{IsLawful}
use Rattle.asn1_model.specs.Rules.{Rules, uper, aper, uper_strict, aper_strict, coer, octet_bits}
use Rattle.asn1_model.specs.Types.{bag_of, bag_with, num, whole}
use Rattle.asn1_model.specs.Per
use Rattle.asn1_model.specs.Oer

-- Symbols from a position on have the form, where each detail is the canonical one, or the form made with it is
-- allowed instead.
unfoldable pub ReadsWith : {F : Type 0} {D : F → Type 0} {A : Type 0} → (Form F D A → Form F D A → Type 0) → Form F D A
    → ℕ → List A → Type 0
ReadsWith may (exactly l) p w = l ≡ w
ReadsWith may refused p w = ⊥
ReadsWith {A = A} may (both x y) p w =
    (a : List A) × (b : List A) × (ReadsWith may x p a) × (ReadsWith may y (p + length a) b) × (a ++ b ≡ w)
ReadsWith may (placed f) p w = ReadsWith may (f p) p w
ReadsWith {D = D} may (varied c d f) p w = (e : D c) × ((e ≡ d) ⊎ may (varied c d f) (f e)) × ReadsWith may (f e) p w
ReadsWith {A = A} may (within x f) p w = (a : List A) × (ReadsWith may x 0 a) × (ReadsWith may (f a) p w)

-- ---- the packed rules

-- A SET OF of a well-formed type, and the form in which its elements ascend by their complete encodings.
abbrev pub HasAscendingBag : Bool → Per.BitForm → Per.BitForm → Type 0
HasAscendingBag al x y =
    (z : Size) × (held : Counts) × (s : Schema) × (vs : Values) × (is : List ℕ) × (ys : List Per.BitForm)
    × IsLawful (set_of z held s) × (x ≡ Per.form al (set_of z held s) (bag vs))
    × (y ≡ Per.sized al z held (λ c. false) ys)
    × (arranged is (each (λ v. Per.form al s v) vs) ≡ Some ys)
    × (ascending (λ x. written (Per.complete x) 0) (stands_before Per.bit_less) ys ≡ Some ys)

-- ---- the octet rules

-- The same for a SET OF in the octet rules.
abbrev pub HasAscendingOctetBag : Oer.OctetForm → Oer.OctetForm → Type 0
HasAscendingOctetBag x y =
    (z : Size) × (held : Counts) × (s : Schema) × (vs : Values) × (is : List ℕ) × (ys : List Oer.OctetForm)
    × IsLawful (set_of z held s) × (x ≡ Oer.form (set_of z held s) (bag vs)) × (y ≡ Oer.members_form held ys)
    × (arranged is (each (λ v. Oer.form s v) vs) ≡ Some ys)
    × (ascending (λ x. written x 0) (stands_before ltb) ys ≡ Some ys)

-- All of the octets are one encoding of the value, canonical except for the order of the elements of each SET OF, and
-- where these elements ascend.
unfoldable pub IsEncodingInOrder : Rules → Schema → Value → List ℕ → Type 0
IsEncodingInOrder uper s v w =
    (length w < 2 ^ 60) × ReadsWith (HasAscendingBag false) (Per.message false s v) 0 (octet_bits w)
IsEncodingInOrder uper_strict s v w =
    (length w < 2 ^ 60) × ReadsWith (HasAscendingBag false) (Per.message false s v) 0 (octet_bits w)
IsEncodingInOrder aper s v w =
    (length w < 2 ^ 60) × ReadsWith (HasAscendingBag true) (Per.message true s v) 0 (octet_bits w)
IsEncodingInOrder aper_strict s v w =
    (length w < 2 ^ 60) × ReadsWith (HasAscendingBag true) (Per.message true s v) 0 (octet_bits w)
IsEncodingInOrder r s v w = (length w < 2 ^ 60) × ReadsWith HasAscendingOctetBag (Oer.form s v) 0 w

-- The SET OF 3, 1 and 2 in ascending order.
abbrev pub InOrderRows : Type 0
InOrderRows =
    IsEncodingInOrder coer (bag_of whole) (bag_with (num 3 ∷ num 1 ∷ num 2 ∷ [])) (1 ∷ 3 ∷ 1 ∷ 1 ∷ 1 ∷ 2 ∷ 1 ∷ 3 ∷ [])
