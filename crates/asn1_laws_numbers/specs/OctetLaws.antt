-- Laws of what is written and read, as octets.
use Rattle.std.specs.Prelude.{◌≡◌, ℕ, ◌^◌, ◌<◌, true, false, IsTrue, List, length, Some}
use Rattle.asn1_model.specs.Value.{Value}
use Rattle.asn1_model.specs.Schema.{Schema}
use Rattle.asn1_model.specs.Normal.{normal}
use Rattle.asn1_model.specs.Strings.{is_octet}
use Rattle.std.specs.List.{list_all}
use Rattle.asn1_model.specs.Form.{Reads}
use Rattle.asn1_model.specs.Lawful.{IsLawful}
use Rattle.asn1_model.specs.Rules.{Rules, uper, aper, uper_strict, aper_strict, oer, coer, octet_bits, canonical}
use Rattle.asn1_model.specs.Rules.{IsEncoding}
use Rattle.asn1_model.specs.Per
use Rattle.asn1_model.specs.Oer
use Rattle.asn1_laws_values.specs.MessageLaws.{canonically}

-- What is written are octets.
abbrev pub WrittenAreOctets : Type 0
WrittenAreOctets =
    (r : Rules) (s : Schema) (v : Value) (w : List ℕ) → IsLawful s → canonical r s v ≡ Some w
    → IsTrue (list_all is_octet w)

-- What a reader of OER or COER accepts are octets.
abbrev pub ReadAreOctets : Type 0
ReadAreOctets =
    (s : Schema) (v : Value) (w : List ℕ) → IsLawful s → (IsEncoding oer s v w → IsTrue (list_all is_octet w))
    × (IsEncoding coer s v w → IsTrue (list_all is_octet w))

-- Fewer than 2 ^ 60 octets that a reader without freedoms accepts as the value.
unfoldable pub IsEncodingWithNoFreedom : Rules → Schema → Value → List ℕ → Type 0
IsEncodingWithNoFreedom uper s v w = (length w < 2 ^ 60) × Reads canonically (Per.message false s v) 0 (octet_bits w)
IsEncodingWithNoFreedom uper_strict s v w =
    (length w < 2 ^ 60) × Reads canonically (Per.message false s v) 0 (octet_bits w)
IsEncodingWithNoFreedom aper s v w = (length w < 2 ^ 60) × Reads canonically (Per.message true s v) 0 (octet_bits w)
IsEncodingWithNoFreedom aper_strict s v w =
    (length w < 2 ^ 60) × Reads canonically (Per.message true s v) 0 (octet_bits w)
IsEncodingWithNoFreedom r s v w = (length w < 2 ^ 60) × Reads canonically (Oer.form s v) 0 w

-- The octets written are exactly those that a reader without freedoms accepts as the normal form of the value.
abbrev pub WrittenIsReadWithNoFreedom : Type 0
WrittenIsReadWithNoFreedom =
    (r : Rules) (s : Schema) (v : Value) (w : List ℕ)
    → (canonical r s v ≡ Some w → IsEncodingWithNoFreedom r s (normal s v) w)
    × (IsTrue (list_all is_octet w) → IsEncodingWithNoFreedom r s (normal s v) w → canonical r s v ≡ Some w)
