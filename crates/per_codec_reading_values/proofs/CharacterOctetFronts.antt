-- Strings whose characters have no fixed width, as octets after a length determinant (X.691 30).
use Rattle.std.proofs.Common.{◌≡◌, ℕ, leb, ◌&&◌, ◌||◌, Bool, true, false, cond, List, [], ◌∷◌, length, refl, ap, sym, ◌∙◌, subst, arith}
use Rattle.std.proofs.lemmas.Bool.{ltb-true, le-leb, and_parts, and_from}
use Rattle.asn1_model.specs.Schema.{Alphabet, Size, StringKind, numeric, printable, visible, ia5, bmp, general, graphic, teletex, utf8, character_string}
use Rattle.asn1_model.specs.Value.{text}
use Rattle.asn1_model.specs.Schema.{any_count}
use Rattle.asn1_model.specs.Numbers.{is_count_within}
use Rattle.asn1_model.specs.Form.{only_if}
use Rattle.asn1_model.specs.Strings.{run, characters_of, is_among, is_octet, is_of_octets, may_hold, permitted}
use Rattle.std.specs.List.{list_all}
use Rattle.asn1_model.specs.Per
use Rattle.asn1_values_alphabets.specs.Permitted.{permits_all}
use Rattle.per_codec_laws.specs.Takes.{Position, Front}
use Rattle.per_codec_laws.proofs.Fronts.{if_in, if_out, of_refused}
use Rattle.per_codec_reading.specs.Fronts.{NoneStands}

all_octets : (k : StringKind) → is_of_octets k ≡ true → characters_of k ≡ run 0 255 ∷ []
all_octets numeric e = cc
all_octets printable e = cc
all_octets visible e = cc
all_octets ia5 e = cc
all_octets bmp e = cc
all_octets general e = refl
all_octets graphic e = refl
all_octets teletex e = refl
all_octets utf8 e = refl

among_octets : (os : List ℕ) → list_all is_octet os ≡ true → list_all (is_among (run 0 255 ∷ [])) os ≡ true
among_octets [] h = refl
among_octets (o ∷ os) h =
    let p = and_parts _ _ h in
    let b = ltb-true o 256 p.0 in
    let i : (leb 0 o && leb o 255) ≡ true = and_from _ _ (le-leb 0 o (omega arith)) (le-leb o 255 (omega arith)) in
    and_from _ _ (ap (λ t. t || false) i) (among_octets os p.1)

module _ (free : Per.Freedom → Bool) (al : Bool) (k : StringKind) (z : Size) (l : Alphabet) (o : is_of_octets k ≡ true) where
  are_octets : (os : List ℕ) (p q : Position) → Front free (Per.counted_octets al os) p q → list_all is_octet os ≡ true
  unfolding Per.counted_octets
  are_octets os p q f = (if_out free (list_all is_octet os) _ p q f).0

  pub octets_stand : ((cs : List ℕ) → may_hold k cs ≡ permits_all k cs) → (os : List ℕ) (p q : Position) → Front free (Per.counted_octets al os) p q →
      Front free (Per.form al (character_string k z l any_count) (text os)) p q
  unfolding Per.form Per.string_form
  octets_stand holds os p q f =
      let m : permits_all k os ≡ true = ap (λ rs. list_all (is_among rs) os) (all_octets k o) ∙ among_octets os (are_octets os p q f) in
      let x = if_in free (is_count_within any_count (length os)) _ p q (and_from _ _ (le-leb 0 (length os) (omega arith)) refl) f in
      if_in free (may_hold k os) _ p q (holds os ∙ m)
      (subst (λ t. Front free (cond t (only_if (is_count_within any_count (length os)) (Per.counted_octets al os)) (Per.characters al z any_count (permitted k l) os)) p q) (sym o) x)

  pub no_octets : (p : Position) → NoneStands free (Per.counted_octets al) p → NoneStands free (Per.form al (character_string k z l any_count)) p
  unfolding Per.form Per.string_form
  no_octets p n (text os) q f =
      let i = if_out free (may_hold k os) _ p q f in
      let x = subst (λ t. Front free (cond t (only_if (is_count_within any_count (length os)) (Per.counted_octets al os)) (Per.characters al z any_count (permitted k l) os)) p q) o i.1 in
      n os q (if_out free (is_count_within any_count (length os)) _ p q x).1
  no_octets p n v q f = absurd (of_refused free p q f)
