-- The complete encodings of field-lists (X.691 11.1), by which the elements of a SET OF are put in order (22).
use Rattle.std.specs.Prelude.{◌≡◌, ℕ, ⊤, true, List, [], ◌∷◌, ◌++◌, Some}
use Rattle.asn1_model.specs.Form.{written}
use Rattle.asn1_model.specs.Numbers.{octet_bits}
use Rattle.asn1_model.specs.Strings.{is_octet}
use Rattle.std.specs.List.{list_all}
use Rattle.asn1_model.specs.Per.{complete}
use Rattle.per_codec_packing.specs.FieldLists.{FieldList, as_form}

-- The octets are the complete encoding of the field-list (X.691 11.1).
pub record IsKeyed (t : FieldList) (w : List ℕ) : Type 0 where
  pub octets : list_all is_octet w ≡ true
  pub key : written (complete (as_form t)) 0 ≡ Some (octet_bits w)

-- The complete encoding of a field-list follows those of others.
pub record AddsKey (t : FieldList) (old new : List (List ℕ)) : Type 0 where
  pub key : List ℕ
  pub keyed : IsKeyed t key
  pub added : new ≡ old ++ key ∷ []

-- These are the complete encodings of the field-lists.
abbrev pub AreKeyed : List FieldList → List (List ℕ) → Type 0
AreKeyed [] [] = ⊤
AreKeyed [] (w ∷ ws) = ⊥
AreKeyed (t ∷ ts) [] = ⊥
AreKeyed (t ∷ ts) (w ∷ ws) = IsKeyed t w × AreKeyed ts ws
