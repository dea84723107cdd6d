-- Character strings as units under a size constraint.
use Rattle.std.proofs.Common.{◌≡◌, ℕ, Option, Bool, true, false, ◌&&◌, List, length, map, None, ap, sym, ◌∙◌, arith}
use Rattle.std.proofs.lemmas.Bool.{le-leb}
use Rattle.asn1_model.specs.Form.{only_if}
use Rattle.asn1_model.specs.Numbers.{is_count_within}
use Rattle.asn1_model.specs.Schema.{Size, Counts, Alphabet, StringKind, character_string}
use Rattle.asn1_model.specs.Strings.{Run, is_of_octets, may_hold, permitted}
use Rattle.std.specs.List.{list_all}
use Rattle.asn1_model.specs.Schema.{any_count}
use Rattle.asn1_model.specs.Value.{text}
use Rattle.asn1_model.specs.Per
use Rattle.asn1_schema_constraints.specs.Terms.{alphabet_of, sizes_of}
use Rattle.asn1_schema_constraints.specs.declared.extensions.Extensible.{Extensible}
use Rattle.asn1_schema_constraints.specs.declared.extensions.PermittedAlphabet.{PermittedAlphabet}
use Rattle.asn1_schema_constraints.specs.declared.parts.Size.{Size as SizeOf}
use Rattle.asn1_values_alphabets.specs.Permitted.{permits_all}
use Rattle.per_codec_alphabets.specs.Octets.{is_encoded_as_octets}
use Rattle.per_codec_alphabets.proofs.OctetCodes.{as_octets, has_codes}
use Rattle.per_codec_alphabets.specs.Codes.{Coded, SameCharacters, has_code}
use Rattle.per_codec_packing.specs.FieldLists.{field_list_at}
use Rattle.per_codec_writing.proofs.PaddingFieldLists.{if_true, cond_true, cond_false}
use Rattle.per_codec_writing.specs.Units.{unit_forms}
use Rattle.per_codec_writing.proofs.PaddedSizes.{sized_padded}
use Rattle.per_codec_writing.specs.Characters.{field_lists_of}
use Rattle.per_codec_writing.proofs.CharacterFieldLists.{forms, no_form}
use Rattle.per_codec_writing.proofs.Refused.{none_sized}

module _ (al : Bool) (z : Size) (h : Counts) (rs : List Run) (a : Coded) (cs : List ℕ) (s : SameCharacters a.runs rs) (b : a.code_bits ≡ Per.character_bits al rs) where
  of_width : Per.characters al z h rs cs ≡ Per.sized al z h (Per.characters_have_padding a.code_bits (length cs)) (map (Per.character a.code_bits rs) cs)
  unfolding Per.characters
  of_width = ap (λ n. Per.sized al z h (Per.characters_have_padding n (length cs)) (map (Per.character n rs) cs)) (sym b)

  pub coded_none : (p : Option ℕ) → list_all (has_code a) cs ≡ false → field_list_at (Per.characters al z h rs cs) p ≡ None
  coded_none p t = ap (λ x. field_list_at x p) of_width ∙ none_sized (Per.character a.code_bits rs) (has_code a) (λ c e q. no_form a rs c q s e) al z
      h (Per.characters_have_padding a.code_bits (length cs)) cs t p

-- the sizes of a writer are y
pub coded_field_list : (al : Bool) (z y : Size) (h : Counts) (rs : List Run) (a : Coded) (cs : List ℕ) → SameCharacters a.runs rs →
    a.code_bits ≡ Per.character_bits al rs → (has_padding : Bool) (p : Option ℕ) → list_all (has_code a) cs ≡ true → y ≡ z →
    has_padding ≡ Per.characters_have_padding a.code_bits (length cs) y.counts → field_list_at (Per.characters al z h rs cs) p
    ≡ field_list_at (Per.sized al y h (λ _. has_padding) (unit_forms (field_lists_of a cs))) p
coded_field_list al z y h rs a cs s b has_padding p t d e =
    ap (λ x. field_list_at (Per.characters al x h rs cs) p) (sym d)
    ∙ ap (λ x. field_list_at x p) (of_width al y h rs a cs s b ∙
    ap (λ us. Per.sized al y h (Per.characters_have_padding a.code_bits (length cs)) us) (forms a rs cs s t) ∙
    sized_padded al y h (Per.characters_have_padding a.code_bits (length cs)) (λ _. has_padding) (unit_forms (field_lists_of a cs)) (sym e))

any_held : (n : ℕ) → is_count_within any_count n ≡ true
any_held n = ap (λ b. b && true) (le-leb 0 n (omega arith))

module _ (al : Bool) (k : StringKind) (z : Size) (l : Alphabet) (cs : List ℕ) (p : Option ℕ) (m : may_hold k cs ≡ true) where
  pub string_of_octets : is_of_octets k ≡ true → field_list_at (Per.form al (character_string k z l any_count) (text cs)) p ≡ field_list_at (Per.counted_octets al cs) p
  unfolding Per.form Per.string_form
  string_of_octets o = if_true (may_hold k cs) _ p m ∙ cond_true (is_of_octets k)
      (only_if (is_count_within any_count (length cs)) (Per.counted_octets al cs)) (Per.characters al z any_count (permitted k l) cs) p o ∙
      if_true (is_count_within any_count (length cs)) (Per.counted_octets al cs) p (any_held (length cs))

  pub string_of_codes : is_of_octets k ≡ false → field_list_at (Per.form al (character_string k z l any_count) (text cs)) p ≡ field_list_at (Per.characters al z any_count (permitted k l) cs) p
  unfolding Per.form Per.string_form
  string_of_codes o = if_true (may_hold k cs) _ p m ∙ cond_false (is_of_octets k)
      (only_if (is_count_within any_count (length cs)) (Per.counted_octets al cs)) (Per.characters al z any_count (permitted k l) cs) p o

pub string_as_octets : (al : Bool) (k : StringKind) (z : Option (Extensible SizeOf)) (l : Option (Extensible PermittedAlphabet)) (cs : List ℕ)
    (p : Option ℕ) → is_encoded_as_octets al k z l ≡ true → may_hold k cs ≡ true → permits_all k cs ≡ true →
    field_list_at (Per.form al (character_string k (sizes_of z) (alphabet_of l) any_count) (text cs)) p ≡ field_list_at (Per.counted_octets al cs) p
string_as_octets al k z l cs p e m h = string_of_codes al k (sizes_of z) (alphabet_of l) cs p m (has_codes al k z l e) ∙ ap (λ x. field_list_at x p) (as_octets al k z l cs e h)
