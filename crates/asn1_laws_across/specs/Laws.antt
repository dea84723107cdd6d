-- Laws of translation between rules.
use Rattle.std.specs.Prelude.{◌≡◌, true, IsTrue, List, ℕ, Some}
use Rattle.asn1_model.specs.Value.{Value, same}
use Rattle.asn1_model.specs.Schema.{Schema}
use Rattle.asn1_model.specs.Lawful.{IsLawful}
use Rattle.asn1_model.specs.Normal.{normal}
use Rattle.asn1_model.specs.Rules.{Rules, uper, aper, uper_strict, aper_strict, oer, coer, canonical, IsEncoding}
use Rattle.asn1_model.specs.Strings.{is_octet}
use Rattle.std.specs.List.{list_all}
use Rattle.asn1_laws_across.specs.InOrder.{IsEncodingInOrder}
use Rattle.asn1_laws_across.specs.OwnWidth.{HasOwnWidths, IsEncodingOfOwnWidth}
use Rattle.asn1_laws_across.specs.Rigid.{is_rigid}

-- If octets are an encoding of several values, these are equal: they have the same normal form, up to the order of the
-- elements of a SET OF, and the same canonical encoding in all rules.
abbrev pub OneMeaning : Type 0
OneMeaning =
    (q r : Rules) (s : Schema) (v u : Value) (w : List ℕ) → IsLawful s → IsEncoding q s v w → IsEncoding q s u w
    → (same v u ≡ true) × (same (normal s v) (normal s u) ≡ true) × (canonical r s v ≡ canonical r s u)

-- The canonical encodings of two values are equal exactly if their normal forms are equal. So if both have canonical
-- encodings in two sets of rules, these are equal in one exactly if they are equal in the other.
abbrev pub EncodingsTellNormalForms : Type 0
EncodingsTellNormalForms =
    (r : Rules) (s : Schema) (v u : Value) (a b : List ℕ) → IsLawful s → canonical r s v ≡ Some a
    → canonical r s u ≡ Some b → (a ≡ b → same (normal s v) (normal s u) ≡ true)
    × (same (normal s v) (normal s u) ≡ true → a ≡ b)

-- A detour changes no octet: encoding what was read in between gives the same as encoding what was read first. So what
-- was transcoded once is transcoded to itself.
abbrev pub DetoursChangeNothing : Type 0
DetoursChangeNothing =
    (p r : Rules) (s : Schema) (v u : Value) (b : List ℕ) → IsLawful s → canonical r s v ≡ Some b → IsEncoding r s u b
    → canonical p s u ≡ canonical p s v

-- Strict rules write what the lenient ones write.
abbrev pub StrictWritesAlike : Type 0
StrictWritesAlike =
    (s : Schema) (v : Value) → (canonical uper_strict s v ≡ canonical uper s v)
    × (canonical aper_strict s v ≡ canonical aper s v) × (canonical coer s v ≡ canonical oer s v)

-- Octets that are canonical except for the order of the elements of each SET OF, and where these elements ascend, are
-- an encoding and the canonical one; and the canonical encoding is such octets.
abbrev pub InOrderIsCanonical : Type 0
InOrderIsCanonical =
    (r : Rules) (s : Schema) (v : Value) (w : List ℕ) → (IsEncodingInOrder r s v w → IsEncoding r s v w)
    × (IsTrue (list_all is_octet w) → IsEncodingInOrder r s v w → canonical r s v ≡ Some w)
    × (canonical r s v ≡ Some w → IsEncodingInOrder r s (normal s v) w)

-- Octets that are canonical, except that a bitmap may have the type's width and a SET OF ascending elements by another
-- detail, are an encoding, and the canonical one.
abbrev pub OwnWidthIsCanonical : Type 0
OwnWidthIsCanonical =
    (r : Rules) (s : Schema) (v : Value) (w : List ℕ) → (IsEncodingOfOwnWidth r s v w → IsEncoding r s v w)
    × (IsTrue (list_all is_octet w) → IsEncodingOfOwnWidth r s v w → canonical r s v ≡ Some w)
    × (IsEncodingInOrder r s v w → IsEncodingOfOwnWidth r s v w)

-- What a reader accepts is such octets, if each bitmap has the width of its type, the elements of each SET OF ascend,
-- and no other freedom of the reader is used: of strict PER it has no other.
abbrev pub ReadWithOwnWidth : Type 0
ReadWithOwnWidth =
    (r : Rules) (s : Schema) (v : Value) (w : List ℕ) (h : IsEncoding r s v w) → HasOwnWidths r s v w h
    → IsEncodingOfOwnWidth r s v w

-- What a strict reader accepts of a rigid type is the canonical encoding of the value.
abbrev pub RigidIsCanonicalIn : Rules → Type 0
RigidIsCanonicalIn r =
    (s : Schema) (v : Value) (w : List ℕ) → IsTrue (is_rigid s) → IsTrue (list_all is_octet w) → IsEncoding r s v w
    → canonical r s v ≡ Some w

abbrev pub RigidIsCanonical : Type 0
RigidIsCanonical = RigidIsCanonicalIn uper_strict × RigidIsCanonicalIn aper_strict × RigidIsCanonicalIn coer
