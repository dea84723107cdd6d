-- The field-lists of strings.
use Rattle.std.proofs.Common.{◌≡◌, ℕ, Option, Bool, true, List, [], ◌∷◌, length, None, refl, ap, sym, ◌∙◌}
use Rattle.asn1_model.specs.Schema.{Size, Counts, Alphabet, utf8, bit_string, octet_string, character_string, object_identifier}
use Rattle.asn1_model.specs.Strings.{is_octet, is_identifier, identifier_octets}
use Rattle.std.specs.Str.{is_utf8}
use Rattle.std.specs.List.{list_all}
use Rattle.asn1_model.specs.Schema.{any_count}
use Rattle.asn1_model.specs.Value.{bit_list, octet_list, text, arcs}
use Rattle.asn1_model.specs.Per
use Rattle.per_codec_packing.specs.FieldLists.{field_list_at}
use Rattle.per_codec_writing.proofs.PaddingFieldLists.{if_true}
use Rattle.per_codec_writing.proofs.PaddedSizes.{sized_padded, any_number}

-- the sizes of a writer are y
pub bit_string_field_list : (al : Bool) (z y : Size) (h : Counts) (bs : List Bool) (b : Bool) (p : Option ℕ) → y ≡ z →
    b ≡ Per.string_has_padding 1 (length bs) y.counts → field_list_at (Per.form al (bit_string z h) (bit_list bs)) p ≡ field_list_at (Per.sized al y h (λ c. b) (Per.bit_units bs)) p
unfolding Per.form
bit_string_field_list al z y h bs b p s e =
    ap (λ x. field_list_at (Per.form al (bit_string x h) (bit_list bs)) p) (sym s)
    ∙ ap (λ x. field_list_at x p) (sized_padded al y h (Per.string_has_padding 1 (length bs)) (λ c. b) (Per.bit_units bs) (sym e))

pub octet_string_field_list : (al : Bool) (z y : Size) (h : Counts) (os : List ℕ) (b : Bool) (p : Option ℕ) → y ≡ z → list_all is_octet os ≡ true →
    b ≡ Per.string_has_padding 8 (length os) y.counts → field_list_at (Per.form al (octet_string z h) (octet_list os)) p ≡ field_list_at (Per.sized al y h (λ c. b) (Per.octet_units os)) p
unfolding Per.form
octet_string_field_list al z y h os b p s o e =
    ap (λ x. field_list_at (Per.form al (octet_string x h) (octet_list os)) p) (sym s)
    ∙ if_true (list_all is_octet os) (Per.sized al y h (Per.string_has_padding 8 (length os)) (Per.octet_units os)) p o
    ∙ ap (λ x. field_list_at x p) (sized_padded al y h (Per.string_has_padding 8 (length os)) (λ c. b) (Per.octet_units os) (sym e))

pub utf8_field_list : (al : Bool) (z : Size) (a : Alphabet) (os : List ℕ) (p : Option ℕ) → is_utf8 os ≡ true →
    field_list_at (Per.form al (character_string utf8 z a any_count) (text os)) p ≡ field_list_at (Per.counted_octets al os) p
unfolding Per.form Per.string_form
utf8_field_list al z a os p u =
    if_true (is_utf8 os) _ p u
    ∙ if_true _ (Per.counted_octets al os) p (any_number (length os))

pub identifier_field_list : (al : Bool) (ns : List ℕ) (p : Option ℕ) → is_identifier ns ≡ true →
    field_list_at (Per.form al object_identifier (arcs ns)) p ≡ field_list_at (Per.counted_octets al (identifier_octets ns)) p
unfolding Per.form
identifier_field_list al ns p e = if_true (is_identifier ns) (Per.counted_octets al (identifier_octets ns)) p e

pub one_arc : (al : Bool) (ns : List ℕ) (p : Option ℕ) → length ns ≡ 1 → field_list_at (Per.form al object_identifier (arcs ns)) p ≡ None
unfolding Per.form field_list_at
one_arc al [] p e = cc
one_arc al (a ∷ []) p e = refl
one_arc al (a ∷ b ∷ ns) p e = cc
