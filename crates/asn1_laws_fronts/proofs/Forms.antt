-- Prefixes of all forms of the packed rules.
use Rattle.std.proofs.Common.{◌≡◌, ℕ, zero, suc, ◌-◌, Bool, true, false, List, [], ◌∷◌, length, refl, ap, subst}
use Rattle.std.proofs.lemmas.Bool.{and_from, eq-eqb}
use Rattle.asn1_model.specs.Value.{Value, truth, nothing, number, item, bit_list, octet_list, text, arcs}
use Rattle.asn1_model.specs.Value.{chosen, same}
use Rattle.asn1_model.specs.Schema.{Counts, Size, Schema, cut, boolean, null, integer, enumerated, bit_string}
use Rattle.asn1_model.specs.Schema.{octet_string, character_string, object_identifier}
use Rattle.asn1_model.specs.Schema.{choice, Alternatives}
use Rattle.asn1_model.specs.Schema.{no_alternative, alternative}
use Rattle.asn1_model.specs.Lawful.{is_lawful}
use Rattle.asn1_model.specs.Form.{exactly, both}
use Rattle.asn1_model.specs.Numbers.{binary}
use Rattle.asn1_model.specs.Rules.{uper, aper, uper_strict, aper_strict, lenient, strict_per, IsEncoding}
use Rattle.asn1_model.specs.Strings.{is_octet, is_identifier, identifier_octets}
use Rattle.std.specs.List.{list_all}
use Rattle.asn1_model.specs.Normal.{alternative_count}
use Rattle.asn1_model.specs.Per
use Rattle.asn1_laws_values.proofs.Same.{same_self}
use Rattle.asn1_laws_fronts.specs.Laws.{OneFrontIn}
use Rattle.asn1_laws_fronts.proofs.Fronts.{agree_exactly, agree_refused, agree_with_refused, agree_map}
use Rattle.asn1_laws_fronts.proofs.Fronts.{agree_both, agree_if}
use Rattle.asn1_laws_fronts.proofs.Fronts.{agree_first, agree_nothing}
use Rattle.asn1_laws_fronts.proofs.PerNumbers.{Alike, pairs_equal, counted_octets_alike, constrained_alike, integer_alike, same_bits, octets_again}
use Rattle.asn1_laws_fronts.proofs.Complete.{complete_alike, octet_fronts}
use Rattle.asn1_laws_fronts.proofs.Sevens.{identifiers_equal}
use Rattle.asn1_laws_values.proofs.Listed.{EachAlternative}
use Rattle.asn1_laws_fronts.proofs.Units.{sized_alike, small_alike, bitmap_alike, items_alike, behind_extension_bit, root_or_added, added_or_root, open_alike}
use Rattle.asn1_laws_fronts.proofs.Strings.{string_alike}
use Rattle.asn1_laws_values.proofs.BitPieces.{bit_pieces, composed}
use Rattle.asn1_laws_fronts.proofs.Whole.{AreAlike, is_single}
use Rattle.asn1_laws_fronts.proofs.Whole as whole

same_of : (v w : Value) → v ≡ w → same v w ≡ true
same_of v w e = subst (λ x. same v x ≡ true) e (same_self v)

module _ (free : Per.Freedom → Bool) (al : Bool) where
  abbrev OneWay : Schema → Type 0
  OneWay s = (v w : Value) → Alike free (Per.form al s v) (Per.form al s w) (same v w ≡ true)

  -- ---- strings of bits and octets
  bits_alike : (z : Size) (held : Counts) (bs cs : List Bool) →
      Alike free (Per.sized al z held (Per.string_has_padding 1 (length bs)) (Per.bit_units bs)) (Per.sized al z held (Per.string_has_padding 1 (length cs)) (Per.bit_units cs)) (bs ≡ cs)
  bits_alike z held bs cs = agree_map free (λ h. pairs_equal bs cs h)
      (sized_alike free Bool (λ a b. a ≡ b) (λ b. exactly (b ∷ []))
      (λ a b. agree_first free (λ e. agree_map free (λ u. e) (agree_nothing free))) al z held (Per.string_has_padding 1 (length bs))
      (Per.string_has_padding 1 (length cs)) bs cs (λ l. ap (λ n. Per.string_has_padding 1 n z.counts) l))

  octets_alike : (z : Size) (held : Counts) (os ps : List ℕ) → list_all is_octet os ≡ true → list_all is_octet ps ≡ true →
      Alike free (Per.sized al z held (Per.string_has_padding 8 (length os)) (Per.octet_units os)) (Per.sized al z held (Per.string_has_padding 8 (length ps)) (Per.octet_units ps)) (os ≡ ps)
  octets_alike z held os ps h k = agree_map free (λ q. octets_again os ps h k q)
      (sized_alike free ℕ same_bits (λ o. exactly (binary 8 o)) (λ o p. agree_exactly free _ _ refl) al z held
      (Per.string_has_padding 8 (length os)) (Per.string_has_padding 8 (length ps)) os ps (λ l. ap (λ n. Per.string_has_padding 8 n z.counts) l))

  -- ---- choices
  alternatives_alike : (others : Alternatives) (i : ℕ) (v w : Value) → EachAlternative OneWay others →
      Alike free (Per.alternative_form al others i v) (Per.alternative_form al others i w) (same v w ≡ true)
  unfolding Per.alternative_form
  alternatives_alike no_alternative i v w h = agree_refused free _ _
  alternatives_alike (alternative t s others) zero v w h = h.0 v w
  alternatives_alike (alternative t s others) (suc i) v w h = alternatives_alike others i v w h.1

  chosen_same : (a : Bool) (i j : ℕ) (v w : Value) → i ≡ j → same v w ≡ true → same (chosen a i v) (chosen a j w) ≡ true
  unfolding same
  chosen_same true i j v w e f = and_from _ _ (eq-eqb i j e) f
  chosen_same false i j v w e f = and_from _ _ (eq-eqb i j e) f

  at_same : (others : Alternatives) (i j : ℕ) (v w : Value) → EachAlternative OneWay others → i ≡ j →
      Alike free (Per.alternative_form al others i v) (Per.alternative_form al others j w) (same v w ≡ true)
  at_same others i j v w h e = subst (λ k. Alike free (Per.alternative_form al others i v) (Per.alternative_form al others k w) (same v w ≡ true)) e (alternatives_alike others i v w h)

  roots_alike : (roots : Alternatives) (e : Bool) (i j : ℕ) (v w : Value) → EachAlternative OneWay roots →
      Alike free (both (Per.extension_bit_of e false)
      (both (Per.constrained al (alternative_count roots - 1) i) (Per.alternative_form al roots i v)))
      (both (Per.extension_bit_of e false) (both (Per.constrained al (alternative_count roots - 1) j) (Per.alternative_form al roots j w))) (same (chosen false i v) (chosen false j w) ≡ true)
  roots_alike roots e i j v w h = behind_extension_bit free e false _ _ _
      (agree_map free (λ q. chosen_same false i j v w q.0 q.1) (agree_both free (constrained_alike free al (alternative_count roots - 1) i j) (λ q. at_same roots i j v w h q)))

  adds_alike : (adds : Alternatives) (i j : ℕ) (v w : Value) → EachAlternative OneWay adds →
      Alike free (both (exactly (true ∷ [])) (both (Per.normally_small al i) (Per.open_type al (Per.alternative_form al adds i v))))
      (both (exactly (true ∷ [])) (both (Per.normally_small al j) (Per.open_type al (Per.alternative_form al adds j w)))) (same (chosen true i v) (chosen true j w) ≡ true)
  adds_alike adds i j v w h = agree_map free (λ q. chosen_same true i j v w q.1.0 q.1.1)
      (agree_both free (agree_exactly free _ _ refl) (λ u. agree_both free (small_alike free al i j) (λ q. open_alike free al _ _ _ (at_same adds i j v w h q))))

  choice_alike : (roots : Alternatives) (e : Bool) (adds : Alternatives) → EachAlternative OneWay roots → EachAlternative OneWay adds → OneWay (choice roots e adds)
  unfolding Per.form
  choice_alike roots e adds h k (chosen false i v) (chosen false j w) = roots_alike roots e i j v w h
  choice_alike roots true adds h k (chosen false i v) (chosen true j w) = root_or_added free _ _ _
  choice_alike roots false adds h k (chosen false i v) (chosen true j w) = agree_with_refused free _ _
  choice_alike roots true adds h k (chosen true i v) (chosen false j w) = added_or_root free _ _ _
  choice_alike roots true adds h k (chosen true i v) (chosen true j w) = adds_alike adds i j v w k
  choice_alike roots false adds h k (chosen true i v) w = agree_refused free _ _
  choice_alike roots e adds h k (chosen false i v) w = agree_with_refused free _ _
  choice_alike roots true adds h k (chosen true i v) w = agree_with_refused free _ _
  choice_alike roots e adds h k v w = agree_refused free _ _

  -- ---- the kinds
  leaf : {x y : Per.BitForm} {X : Type 0} {a b : X} (f : X → Value) → Alike free x y (a ≡ b) → Alike free x y (same (f a) (f b) ≡ true)
  leaf {a = a} {b = b} f h = agree_map free (λ e. same_of (f a) (f b) (ap f e)) h

  boolean_alike : OneWay boolean
  unfolding Per.form
  boolean_alike (truth a) (truth b) = leaf truth (agree_first free (λ e. agree_map free (λ u. e) (agree_nothing free)))
  boolean_alike (truth a) w = agree_with_refused free _ _
  boolean_alike v w = agree_refused free _ _

  null_alike : OneWay null
  unfolding Per.form
  null_alike nothing nothing = agree_map free (λ u. same_self nothing) (agree_nothing free)
  null_alike nothing w = agree_with_refused free _ _
  null_alike v w = agree_refused free _ _

  single : (s : Schema) → is_single s ≡ true → OneWay s
  unfolding Per.form
  single boolean h v w = boolean_alike v w
  single null h v w = null_alike v w
  single (integer b held) h (number v) (number w) = leaf number (integer_alike free al b held v w)
  single (integer b held) h (number v) w = agree_with_refused free _ _
  single (integer b held) h v w = agree_refused free _ _
  single (enumerated roots e adds) h (item v) (item w) = leaf item (items_alike free al roots adds e v w)
  single (enumerated roots e adds) h (item v) w = agree_with_refused free _ _
  single (enumerated roots e adds) h v w = agree_refused free _ _
  single (bit_string z held) h (bit_list v) (bit_list w) = leaf bit_list (bits_alike z held v w)
  single (bit_string z held) h (bit_list v) w = agree_with_refused free _ _
  single (bit_string z held) h v w = agree_refused free _ _
  single (octet_string z held) h (octet_list v) (octet_list w) = leaf octet_list (agree_if free (list_all is_octet v) (list_all is_octet w) _ _ (λ i j. octets_alike z held v w i j))
  single (octet_string z held) h (octet_list v) w = agree_with_refused free _ _
  single (octet_string z held) h v w = agree_refused free _ _
  single (character_string k z a held) h (text v) (text w) = leaf text (string_alike free al k z a held v w)
  single (character_string k z a held) h (text v) w = agree_with_refused free _ _
  single (character_string k z a held) h v w = agree_refused free _ _
  single object_identifier h (arcs v) (arcs w) =
      leaf arcs (agree_if free (is_identifier v) (is_identifier w) _ _
      (λ i j. agree_map free (λ e. identifiers_equal v w i j e) (counted_octets_alike free al (identifier_octets v) (identifier_octets w))))
  single object_identifier h (arcs v) w = agree_with_refused free _ _
  single object_identifier h v w = agree_refused free _ _
  single cut h v w = agree_refused free _ _
  single s h v w = cc

  pub alike : AreAlike (bit_pieces al) free
  alike = record {
    counted = λ os ps. counted_octets_alike free al os ps;
    preambles = λ ms ns l. agree_exactly free ms ns l;
    bitmaps = λ xs ys. bitmap_alike free al xs ys;
    lists = λ X P f h z c xs ys. sized_alike free X P f h al z c (λ c. false) (λ c. false) xs ys (λ l. refl);
    open_types = λ x y P h. open_alike free al x y P h;
    leaves = single;
    choices = λ roots e adds l h k. choice_alike roots e adds h k;
  }

  pub one_way : (s : Schema) → is_lawful s ≡ true → OneWay s
  one_way s h = whole.one_way (bit_pieces al) (composed al) free alike s h

  pub messages_alike : (s : Schema) (v w : Value) → is_lawful s ≡ true → Alike free (Per.message al s v) (Per.message al s w) (same v w ≡ true)
  unfolding Per.message
  messages_alike s v w h = complete_alike free _ _ _ (one_way s h v w)

pub one_front_uper : OneFrontIn uper
unfolding IsEncoding
one_front_uper s v u a b x y h f g e = octet_fronts lenient _ _ _ a b x y (messages_alike lenient false s v u h) f.1 g.1 e

pub one_front_aper : OneFrontIn aper
unfolding IsEncoding
one_front_aper s v u a b x y h f g e = octet_fronts lenient _ _ _ a b x y (messages_alike lenient true s v u h) f.1 g.1 e

pub one_front_uper_strict : OneFrontIn uper_strict
unfolding IsEncoding
one_front_uper_strict s v u a b x y h f g e = octet_fronts strict_per _ _ _ a b x y (messages_alike strict_per false s v u h) f.1 g.1 e

pub one_front_aper_strict : OneFrontIn aper_strict
unfolding IsEncoding
one_front_aper_strict s v u a b x y h f g e = octet_fronts strict_per _ _ _ a b x y (messages_alike strict_per true s v u h) f.1 g.1 e
