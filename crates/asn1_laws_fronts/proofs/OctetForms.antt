-- Prefixes of all forms of the octet rules.
use Rattle.std.proofs.Common.{◌≡◌, ℕ, Bool, true, false, ◌&&◌, ◌||◌, List, ◌++◌, length, ap, subst}
use Rattle.std.proofs.lemmas.Bool.{and_parts, and_from, eq-eqb}
use Rattle.asn1_model.specs.Numbers.{admits}
use Rattle.asn1_model.specs.Value.{Value, truth, nothing, number, item, bit_list, octet_list, text, arcs}
use Rattle.asn1_model.specs.Value.{chosen, same}
use Rattle.asn1_model.specs.Schema.{Counts, Size, StringKind, Schema, cut, boolean, null, integer, enumerated}
use Rattle.asn1_model.specs.Schema.{bit_string, octet_string, character_string, object_identifier}
use Rattle.asn1_model.specs.Schema.{choice, Alternatives}
use Rattle.asn1_model.specs.Lawful.{is_lawful, are_distinct, tag_same, alternative_tags}
use Rattle.asn1_model.specs.Form.{only_if}
use Rattle.std.specs.Prelude.{is_some}
use Rattle.asn1_model.specs.Rules.{oer, coer, lenient, strict_oer, IsEncoding}
use Rattle.asn1_model.specs.Strings.{is_identifier, identifier_octets, may_hold}
use Rattle.asn1_model.specs.Normal.{item_place}
use Rattle.asn1_model.specs.Oer
use Rattle.asn1_laws_values.proofs.Same.{same_self}
use Rattle.asn1_laws_fronts.specs.Laws.{OneFrontIn}
use Rattle.asn1_laws_fronts.proofs.Fronts.{agree_refused, agree_with_refused, agree_map}
use Rattle.asn1_laws_fronts.proofs.Fronts.{agree_if}
use Rattle.asn1_laws_fronts.proofs.Fronts.{agree_nothing, agree_turned}
use Rattle.asn1_laws_fronts.proofs.OerNumbers.{OctetsAlike, integer_alike, counted_alike}
use Rattle.asn1_laws_fronts.proofs.OerBits.{preamble_alike, counted_bits_alike}
use Rattle.asn1_laws_fronts.proofs.Truths.{truths_alike}
use Rattle.asn1_laws_fronts.proofs.Sevens.{identifiers_equal}
use Rattle.asn1_laws_values.proofs.Listed.{EachAlternative}
use Rattle.asn1_laws_fronts.proofs.OctetUnits.{items_alike, bit_strings_alike, octets_alike, one_length, characters_equal, characters_long, members_alike, open_alike}
use Rattle.asn1_laws_fronts.proofs.Choices.{OneWay, one_table, two_tables, distinct_before, distinct_behind}
use Rattle.asn1_laws_values.proofs.OctetPieces.{octet_pieces, composed}
use Rattle.asn1_laws_fronts.proofs.Whole.{AreAlike, is_single}
use Rattle.asn1_laws_fronts.proofs.Whole as whole

same_of : (v w : Value) → v ≡ w → same v w ≡ true
same_of v w e = subst (λ x. same v x ≡ true) e (same_self v)

module _ (free : Oer.Freedom → Bool) where
  abbrev Way : Schema → Type 0
  Way s = OneWay free s

  -- ---- choices
  chosen_same : (a : Bool) (i j : ℕ) (v w : Value) → i ≡ j → same v w ≡ true → same (chosen a i v) (chosen a j w) ≡ true
  unfolding same
  chosen_same true i j v w e f = and_from _ _ (eq-eqb i j e) f
  chosen_same false i j v w e f = and_from _ _ (eq-eqb i j e) f

  choice_alike : (roots : Alternatives) (e : Bool) (adds : Alternatives) →
      are_distinct tag_same (alternative_tags roots ++ alternative_tags adds) ≡ true → EachAlternative Way roots → EachAlternative Way adds → Way (choice roots e adds)
  unfolding Oer.form
  choice_alike roots e adds d h k (chosen false i v) (chosen false j w) =
      agree_map free (λ q. chosen_same false i j v w q.0 q.1) (one_table free false roots i j v w (distinct_before tag_same (alternative_tags roots) (alternative_tags adds) d) h)
  choice_alike roots true adds d h k (chosen false i v) (chosen true j w) = two_tables free roots adds i j v w _ d
  choice_alike roots false adds d h k (chosen false i v) (chosen true j w) = agree_with_refused free _ _
  choice_alike roots true adds d h k (chosen true i v) (chosen false j w) = agree_turned free (two_tables free roots adds j i w v _ d)
  choice_alike roots true adds d h k (chosen true i v) (chosen true j w) =
      agree_map free (λ q. chosen_same true i j v w q.0 q.1) (one_table free true adds i j v w (distinct_behind tag_same (alternative_tags roots) (alternative_tags adds) d) k)
  choice_alike roots false adds d h k (chosen true i v) w = agree_refused free _ _
  choice_alike roots e adds d h k (chosen false i v) w = agree_with_refused free _ _
  choice_alike roots true adds d h k (chosen true i v) w = agree_with_refused free _ _
  choice_alike roots e adds d h k v w = agree_refused free _ _

  -- ---- the kinds
  leaf : {x y : Oer.OctetForm} {X : Type 0} {a b : X} (f : X → Value) → OctetsAlike free x y (a ≡ b) → OctetsAlike free x y (same (f a) (f b) ≡ true)
  leaf {a = a} {b = b} f h = agree_map free (λ e. same_of (f a) (f b) (ap f e)) h

  boolean_alike : Way boolean
  unfolding Oer.form
  boolean_alike (truth a) (truth b) = agree_map free (λ e. same_of (truth a) (truth b) e) (truths_alike free a b)
  boolean_alike (truth false) w = agree_with_refused free _ _
  boolean_alike (truth true) w = agree_with_refused free _ _
  boolean_alike v w = agree_refused free _ _

  null_alike : Way null
  unfolding Oer.form
  null_alike nothing nothing = agree_map free (λ u. same_self nothing) (agree_nothing free)
  null_alike nothing w = agree_with_refused free _ _
  null_alike v w = agree_refused free _ _

  string_alike : (k : StringKind) (z : Size) (held : Counts) (v w : List ℕ) →
      OctetsAlike free (only_if (admits z held (length v) && may_hold k v)
      (Oer.octets_form (Oer.is_fixed z) (Oer.string_octets k v))) (only_if (admits z held (length w) && may_hold k w) (Oer.octets_form (Oer.is_fixed z) (Oer.string_octets k w))) (v ≡ w)
  string_alike k z held v w = agree_if free (admits z held (length v) && may_hold k v) (admits z held (length w) && may_hold k w) _ _ (λ i j.
      let i' = and_parts _ _ i in
      let j' = and_parts _ _ j in
      agree_map free (λ e. characters_equal k v w i'.1 j'.1 e)
      (octets_alike free (Oer.is_fixed z) (Oer.string_octets k v) (Oer.string_octets k w) (λ f. characters_long k v w (one_length z held (length v) (length w) f i'.0 j'.0))))

  single : (s : Schema) → is_single s ≡ true → Way s
  unfolding Oer.form
  single boolean h v w = boolean_alike v w
  single null h v w = null_alike v w
  single (integer b held) h (number v) (number w) = leaf number (integer_alike free b held v w)
  single (integer b held) h (number v) w = agree_with_refused free _ _
  single (integer b held) h v w = agree_refused free _ _
  single (enumerated roots e adds) h (item v) (item w) =
      leaf item (agree_if free (is_some (item_place v roots) || (e && is_some (item_place v adds)))
      (is_some (item_place w roots) || (e && is_some (item_place w adds))) _ _ (λ i j. items_alike free v w))
  single (enumerated roots e adds) h (item v) w = agree_with_refused free _ _
  single (enumerated roots e adds) h v w = agree_refused free _ _
  single (bit_string z held) h (bit_list v) (bit_list w) =
      leaf bit_list (agree_if free (admits z held (length v)) (admits z held (length w)) _ _ (λ i j. bit_strings_alike free (Oer.is_fixed z) v w (λ f. one_length z held (length v) (length w) f i j)))
  single (bit_string z held) h (bit_list v) w = agree_with_refused free _ _
  single (bit_string z held) h v w = agree_refused free _ _
  single (octet_string z held) h (octet_list v) (octet_list w) =
      leaf octet_list (agree_if free (admits z held (length v)) (admits z held (length w)) _ _ (λ i j. octets_alike free (Oer.is_fixed z) v w (λ f. one_length z held (length v) (length w) f i j)))
  single (octet_string z held) h (octet_list v) w = agree_with_refused free _ _
  single (octet_string z held) h v w = agree_refused free _ _
  single (character_string k z a held) h (text v) (text w) = leaf text (string_alike k z held v w)
  single (character_string k z a held) h (text v) w = agree_with_refused free _ _
  single (character_string k z a held) h v w = agree_refused free _ _
  single object_identifier h (arcs v) (arcs w) =
      leaf arcs (agree_if free (is_identifier v) (is_identifier w) _ _ (λ i j. agree_map free (λ e. identifiers_equal v w i j e) (counted_alike free (identifier_octets v) (identifier_octets w))))
  single object_identifier h (arcs v) w = agree_with_refused free _ _
  single object_identifier h v w = agree_refused free _ _
  single cut h v w = agree_refused free _ _
  single s h v w = cc

  choices : (roots : Alternatives) (e : Bool) (adds : Alternatives) → is_lawful (choice roots e adds) ≡ true →
      EachAlternative Way roots → EachAlternative Way adds → Way (choice roots e adds)
  unfolding is_lawful
  choices roots e adds l h k = choice_alike roots e adds ((and_parts _ _ ((and_parts _ _ ((and_parts _ _ l).0)).0)).1) h k

  pub alike : AreAlike octet_pieces free
  alike = record {
    counted = λ os ps. counted_alike free os ps;
    preambles = λ ms ns l. preamble_alike free ms ns l;
    bitmaps = λ xs ys. counted_bits_alike free _ _;
    lists = λ X P f h z c xs ys. members_alike free X P f h c xs ys;
    open_types = λ x y P h. open_alike free x y P h;
    leaves = single;
    choices = choices;
  }

  pub one_way : (s : Schema) → is_lawful s ≡ true → Way s
  one_way s h = whole.one_way octet_pieces composed free alike s h

pub one_front_oer : OneFrontIn oer
unfolding IsEncoding
one_front_oer s v u a b x y h f g e = (one_way lenient s h v u).fronts 0 a b x y f.1 g.1 e

pub one_front_coer : OneFrontIn coer
unfolding IsEncoding
one_front_coer s v u a b x y h f g e = (one_way strict_oer s h v u).fronts 0 a b x y f.1 g.1 e
