-- Octets that begin with a UTF8String.
use Rattle.std.proofs.Common.{◌≡◌, Bool, true, false, ◌&&◌, List, ℕ, length, ap, sym, ◌∙◌}
use Rattle.std.proofs.lemmas.Bool.{false≢true, and_parts, and_from}
use Rattle.asn1_model.specs.Schema.{Size, Counts, Alphabet, utf8, octet_string, character_string}
use Rattle.asn1_model.specs.Value.{Value, octet_list, text}
use Rattle.asn1_model.specs.Form.{Reads}
use Rattle.asn1_model.specs.Strings.{may_hold}
use Rattle.asn1_model.specs.Oer.{Freedom, form, is_fixed, octets_form}
use Rattle.asn1_model.specs.Numbers.{admits}
use Rattle.oer_codec_reading.specs.Fronts.{FrontOf, NoneStands}
use Rattle.asn1_schema_constraints.specs.Terms.{one_size}
use Rattle.oer_codec_reading.proofs.Fronts.{if_stands, if_front}
use Rattle.oer_codec_reading.proofs.SizedFronts.{one_length, sized_one, to_sized}

module _ (free : Freedom → Bool) (z : Size) (a : Alphabet) (h : Counts) where
  text_front : (v : Value) (w rest : List ℕ) → FrontOf free (character_string utf8 z a h) v w rest → (os : List ℕ) × (may_hold utf8 os ≡ true) × FrontOf free (octet_string z h) (octet_list os) w rest
  unfolding form Reads
  text_front (text os) w rest f =
      let i = if_front free (admits z h (length os) && may_hold utf8 os) (octets_form (is_fixed z) os) w rest f in
      let p = and_parts _ _ i.0 in
      (os, p.1, if_stands free (admits z h (length os)) (octets_form (is_fixed z) os) w rest p.0 i.1)
  text_front v w rest f = absurd f.2

  octets_one : (x y w r s : List ℕ) → FrontOf free (octet_string z h) (octet_list x) w r → FrontOf free (octet_string z h) (octet_list y) w s → x ≡ y
  unfolding form Reads
  octets_one x y w r s f g =
      let i = if_front free (admits z h (length x)) (octets_form (is_fixed z) x) w r f in
      let j = if_front free (admits z h (length y)) (octets_form (is_fixed z) y) w s g in
      (sized_one free (one_size z) x y w r s (to_sized free (is_fixed z) z.counts.low x w r (λ e. one_length z h (length x) e i.0) i.1)
      (to_sized free (is_fixed z) z.counts.low y w s (λ e. one_length z h (length y) e j.0) j.1)).0

  -- Octets that are UTF-8 are a text.
  pub text_stands : (os w rest : List ℕ) → may_hold utf8 os ≡ true → FrontOf free (octet_string z h) (octet_list os) w rest → FrontOf free (character_string utf8 z a h) (text os) w rest
  unfolding form Reads
  text_stands os w rest u f =
      let i = if_front free (admits z h (length os)) (octets_form (is_fixed z) os) w rest f in
      if_stands free (admits z h (length os) && may_hold utf8 os) (octets_form (is_fixed z) os) w rest (and_from _ _ i.0 u) i.1

  pub no_octets : (w : List ℕ) → NoneStands free (form (octet_string z h)) w → NoneStands free (form (character_string utf8 z a h)) w
  no_octets w n v rest f = let t = text_front v w rest f in n (octet_list t.0) rest t.2

  -- Others are not.
  pub no_text : (os w mid : List ℕ) → may_hold utf8 os ≡ false → FrontOf free (octet_string z h) (octet_list os) w mid → NoneStands free (form (character_string utf8 z a h)) w
  no_text os w mid u f v rest g =
      let t = text_front v w rest g in
      let o = octets_one os t.0 w mid rest f t.2 in
      false≢true (sym u ∙ ap (may_hold utf8) o ∙ t.1)
