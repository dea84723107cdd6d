-- What both versions of a type read of the beginning of one encoding in the packed rules can be carried over.
use Rattle.std.specs.Prelude.{ℤ, is_some}
use Rattle.std.proofs.Common.{◌≡◌, ℕ, zero, suc, ◌-◌, ◌*◌, Bool, true, false, ◌||◌, List, [], ◌∷◌, ◌++◌, length, map, flat_map, Option, Some, None, refl, ap, sym, ◌∙◌, subst}
use Rattle.asn1_model.specs.Value.{Value, item, chosen}
use Rattle.asn1_model.specs.Schema.{Schema, enumerated}
use Rattle.asn1_model.specs.Schema.{choice, Alternatives}
use Rattle.asn1_model.specs.Schema.{no_alternative, alternative}
use Rattle.asn1_model.specs.Lawful.{is_lawful}
use Rattle.asn1_model.specs.Normal.{alternative_count, item_place}
use Rattle.asn1_model.specs.Form.{exactly, both, Reads}
use Rattle.asn1_model.specs.Numbers.{binary, by_eights}
use Rattle.asn1_model.specs.Strings.{is_octet}
use Rattle.std.specs.List.{list_all}
use Rattle.asn1_model.specs.Oer.{packed}
use Rattle.asn1_model.specs.Per
use Rattle.asn1_model.specs.Versions.{carried_alternative, Begins, Extends, ExtendsAlternatives}
use Rattle.asn1_laws_values.proofs.Octets.{eights_units}
use Rattle.asn1_laws_fronts.proofs.Fronts.{agree_exactly, agree_with_refused, agree_map, agree_both, agree_if_left, agree_nothing}
use Rattle.asn1_laws_fronts.proofs.PerNumbers.{Alike, octet_units_alike, constrained_alike, bits_apart, bits_apart'}
use Rattle.asn1_laws_fronts.proofs.Units.{small_alike, items_equal, behind_extension_bit, root_or_added, added_or_root, complete_whole, joined_long, when_read}
use Rattle.asn1_laws_versions.proofs.Keeping.{count_kept, place_kept}
use Rattle.asn1_laws_versions.proofs.Taken.{taken, taken_same, taken_both, taken_refused}
use Rattle.asn1_laws_versions.proofs.Parts.{Carried}
use Rattle.asn1_laws_versions.proofs.Members.{EachPairOf, AlternativeCarried}
use Rattle.asn1_laws_versions.proofs.Members.{item_carried, chosen_carried}
use Rattle.asn1_laws_versions.proofs.Members.{chosen_added_carried}
use Rattle.asn1_laws_values.proofs.BitPieces.{bit_pieces, composed}
use Rattle.asn1_laws_fronts.proofs.Forms.{alike}
use Rattle.asn1_laws_versions.proofs.PerVersions.{covered}
use Rattle.asn1_laws_versions.proofs.Ways.{AreMet, open_meets_in}
use Rattle.asn1_laws_versions.proofs.Ways as ways

module _ (free : Per.Freedom → Bool) where
  -- octets after their length determinant, and an open type
  octets_and_eights : (al : Bool) (os : List ℕ) (w : List Bool) (k : ℕ) → length w ≡ 8 * k → Alike free (Per.counted_octets al os) (Per.counted al (map (λ o. exactly o) (by_eights w))) (Unit {0})
  unfolding Per.counted_octets
  octets_and_eights al os w k l =
      let e : map (λ o. exactly o) (by_eights w) ≡ Per.octet_units (packed w) = eights_units k w l in
      subst (λ us. Alike free (Per.counted_octets al os) (Per.counted al us) (Unit {0})) (sym e)
      (agree_if_left free (list_all is_octet os) {x = Per.counted al (Per.octet_units os)} {y =
      Per.counted al (Per.octet_units (packed w))} (λ i. agree_map free (λ q. tt) (octet_units_alike free al os (packed w))))

  octets_and_open : (al : Bool) (os : List ℕ) (x : Per.BitForm) → Alike free (Per.counted_octets al os) (Per.open_type al x) (Unit {0})
  unfolding Per.open_type Reads
  octets_and_open al os x = record {
    fronts = λ p a b r s f g e.
        let c = complete_whole free x g.0 0 g.1 in
        let n : List ℕ = g.2.0 in
        let j = when_read free (list_all is_octet n) _ p b g.2.2 in
        let q = (octets_and_eights al os (g.0 ++ flat_map (binary 8) n) _ (joined_long free g.0 n c.0 c.1)).fronts p a b r s f j e in
        (q.0, tt);
  }

  module _ (m al : Bool) where
    abbrev Met : Per.BitForm → Per.BitForm → Type 0 → Type 0
    Met x y P = Alike free (taken free m x) y P

    abbrev Way : Schema → Schema → Type 0
    Way s s' = (x v : Value) → Met (Per.form al s x) (Per.form al s' v) (Carried m s s' x v)

    -- ---- items
    known : (o p : Option ℕ) (i : ℕ) → p ≡ Some i → (is_some o || is_some p) ≡ true
    known None p i e = ap (λ p. is_some p) e
    known (Some j) p i e = refl

    abbrev Place : List ℤ → ℤ → Option ℕ → Type 0
    Place ds v o = item_place v ds ≡ o

    items_way : (roots adds adds' : List ℤ) (n k : ℤ) → Begins adds adds' → (e : Bool) (i j c d : Option ℕ) → Place roots n i →
        Place adds n j → Place roots k c → Place adds' k d →
        Met (Per.item_form al (length roots) e i j) (Per.item_form al (length roots) e c d) ((is_some (item_place k roots) || is_some (item_place k adds)) ≡ true)
    unfolding Per.item_form
    items_way roots adds adds' n k h e (Some i) j (Some c) d p q r s =
        agree_map free (λ u. ap (λ o. is_some o || is_some (item_place k adds)) r)
        (taken_same free m _ _ _ (behind_extension_bit free e false _ _ _ (constrained_alike free al (length roots - 1) i c)))
    items_way roots adds adds' n k h false (Some i) j None d p q r s = agree_with_refused free _ _
    items_way roots adds adds' n k h true (Some i) j None None p q r s = agree_with_refused free _ _
    items_way roots adds adds' n k h true (Some i) j None (Some d) p q r s = taken_same free m _ _ _ (root_or_added free _ _ _)
    items_way roots adds adds' n k h false None j c d p q r s = taken_refused free m _ _
    items_way roots adds adds' n k h true None None c d p q r s = taken_refused free m _ _
    items_way roots adds adds' n k h true None (Some j) (Some c) d p q r s = taken_same free m _ _ _ (added_or_root free _ _ _)
    items_way roots adds adds' n k h true None (Some j) None None p q r s = agree_with_refused free _ _
    items_way roots adds adds' n k h true None (Some j) None (Some d) p q r s =
        let kept : item_place n adds' ≡ Some j = ap (item_place n) (sym h.1) ∙ place_kept n adds h.0 j q in
        agree_map free (λ u. known (item_place k roots) (item_place k adds) j
        (subst (λ k. item_place k adds ≡ Some j) (items_equal adds' n k j kept (s ∙ ap Some (sym u.1))) q))
        (taken_same free m _ _ _ (agree_both free (agree_exactly free _ _ refl) (λ u. small_alike free al j d)))

    item_way : (roots adds adds' : List ℤ) (e : Bool) → Begins adds adds' → (n k : ℤ) →
        Met (Per.form al (enumerated roots e adds) (item n)) (Per.form al (enumerated roots e adds') (item k))
        (Carried m (enumerated roots e adds) (enumerated roots e adds') (item n) (item k))
    unfolding Per.form
    item_way roots adds adds' e h n k =
        agree_map free (λ q. item_carried m roots adds adds' e n k q) (items_way roots adds adds' n k h e _ _ _ _ refl refl refl refl)

    -- ---- choices
    abbrev Others : Alternatives → Alternatives → Type 0
    Others others others' = EachPairOf (λ s s'. Way s s') others others'

    alternatives_way : (more : Bool) (others others' : Alternatives) (i : ℕ) (x v : Value) →
        ExtendsAlternatives more others others' → Others others others' → Met (Per.alternative_form al others i x) (Per.alternative_form al others' i v) (AlternativeCarried m others others' i x v)
    unfolding Per.alternative_form ExtendsAlternatives carried_alternative
    alternatives_way more no_alternative others' i x v h k = taken_refused free m _ _
    alternatives_way more (alternative t s others) no_alternative i x v h k = absurd h
    alternatives_way more (alternative t s others) (alternative t' s' others') zero x v h k = k.0 x v
    alternatives_way more (alternative t s others) (alternative t' s' others') (suc i) x v h k = alternatives_way more others others' i x v h.2 k.1

    at_way : (more : Bool) (others others' : Alternatives) (i j : ℕ) (x v : Value) → ExtendsAlternatives more others others' →
        Others others others' → i ≡ j → Met (Per.alternative_form al others i x) (Per.alternative_form al others' j v) (AlternativeCarried m others others' i x v)
    at_way more others others' i j x v h k e =
        subst (λ n. Met (Per.alternative_form al others i x) (Per.alternative_form al others' n v) (AlternativeCarried m others others' i x v)) e (alternatives_way more others others' i x v h k)

    extension_bit_alike : (e b : Bool) → Alike free (Per.extension_bit_of e b) (Per.extension_bit_of e b) (Unit {0})
    extension_bit_alike false b = agree_nothing free
    extension_bit_alike true b = agree_map free (λ e. tt) (agree_exactly free (b ∷ []) (b ∷ []) refl)

    root_way : (roots roots' adds adds' : Alternatives) (e : Bool) (i j : ℕ) (x v : Value) →
        ExtendsAlternatives false roots roots' → Others roots roots' →
        Met (both (Per.extension_bit_of e false)
        (both (Per.constrained al (alternative_count roots - 1) i) (Per.alternative_form al roots i x)))
        (both (Per.extension_bit_of e false) (both (Per.constrained al (alternative_count roots' - 1) j)
        (Per.alternative_form al roots' j v))) (Carried m (choice roots e adds) (choice roots' e adds') (chosen false i x) (chosen false j v))
    root_way roots roots' adds adds' e i j x v h k =
        let index : Alike free (Per.constrained al (alternative_count roots - 1) i)
        (Per.constrained al (alternative_count roots' - 1) j) (i ≡ j) =
        subst (λ n. Alike free (Per.constrained al (alternative_count roots - 1) i) (Per.constrained al (n - 1) j) (i ≡ j))
        (sym (count_kept roots roots' h)) (constrained_alike free al (alternative_count roots - 1) i j) in
        agree_map free (λ q. chosen_carried m roots roots' adds adds' e e i j x v q.1.0 q.1.1)
        (taken_both free m _ _ _ _ _ _ (taken_same free m _ _ _ (extension_bit_alike e false))
        (λ u. taken_both free m _ _ _ _ _ _ (taken_same free m _ _ _ index) (λ n. at_way false roots roots' i j x v h k n)))

    added_alternative_way : (roots roots' adds adds' : Alternatives) (i j : ℕ) (x v : Value) → ExtendsAlternatives true adds adds' →
        Others adds adds' → Met (both (exactly (true ∷ []))
        (both (Per.normally_small al i) (Per.open_type al (Per.alternative_form al adds i x))))
        (both (exactly (true ∷ [])) (both (Per.normally_small al j) (Per.open_type al (Per.alternative_form al adds' j v))))
        (Carried m (choice roots true adds) (choice roots' true adds') (chosen true i x) (chosen true j v))
    added_alternative_way roots roots' adds adds' i j x v h k =
        agree_map free (λ q. chosen_added_carried m roots roots' adds adds' true true i j x v q.1.0 q.1.1)
        (taken_both free m _ _ _ _ _ _ (taken_same free m _ _ _ (agree_exactly free _ _ refl))
        (λ u. taken_both free m _ _ _ _ _ _ (taken_same free m _ _ _ (small_alike free al i j))
        (λ n. open_meets_in (bit_pieces al) free (alike free al) (covered al) m _ _ _ (at_way true adds adds' i j x v h k n))))

    choice_way : (roots roots' : Alternatives) (e : Bool) (adds adds' : Alternatives) → ExtendsAlternatives false roots roots' →
        ExtendsAlternatives e adds adds' → Others roots roots' → Others adds adds' → Way (choice roots e adds) (choice roots' e adds')
    unfolding Per.form
    choice_way roots roots' e adds adds' h i k l (chosen false a x) (chosen false b v) = root_way roots roots' adds adds' e a b x v h k
    choice_way roots roots' true adds adds' h i k l (chosen false a x) (chosen true b v) = taken_root
      where
        taken_root : Met (both (exactly (false ∷ []))
            (both (Per.constrained al (alternative_count roots - 1) a) (Per.alternative_form al roots a x)))
            (both (exactly (true ∷ [])) (both (Per.normally_small al b) (Per.open_type al (Per.alternative_form al adds' b v))))
            (Carried m (choice roots true adds) (choice roots' true adds') (chosen false a x) (chosen true b v))
        taken_root = agree_map free (λ (q : ⊥ × Unit {0}). absurd (q.0)) (taken_both free m _ _ _ _ ⊥ (Unit {0}) (taken_same free m _ _ _ (bits_apart' free)) (λ e. absurd e))
    choice_way roots roots' false adds adds' h i k l (chosen false a x) (chosen true b v) = agree_with_refused free _ _
    choice_way roots roots' true adds adds' h i k l (chosen true a x) (chosen false b v) = taken_added
      where
        taken_added : Met (both (exactly (true ∷ []))
            (both (Per.normally_small al a) (Per.open_type al (Per.alternative_form al adds a x))))
            (both (exactly (false ∷ [])) (both (Per.constrained al (alternative_count roots' - 1) b)
            (Per.alternative_form al roots' b v))) (Carried m (choice roots true adds) (choice roots' true adds') (chosen true a x) (chosen false b v))
        taken_added = agree_map free (λ (q : ⊥ × Unit {0}). absurd (q.0)) (taken_both free m _ _ _ _ ⊥ (Unit {0}) (taken_same free m _ _ _ (bits_apart free)) (λ e. absurd e))
    choice_way roots roots' true adds adds' h i k l (chosen true a x) (chosen true b v) = added_alternative_way roots roots' adds adds' a b x v i l
    choice_way roots roots' false adds adds' h i k l (chosen true a x) v = taken_refused free m _ _
    choice_way roots roots' e adds adds' h i k l (chosen false a x) v = agree_with_refused free _ _
    choice_way roots roots' true adds adds' h i k l (chosen true a x) v = agree_with_refused free _ _
    choice_way roots roots' e adds adds' h i k l x v = taken_refused free m _ _

    met : AreMet (bit_pieces al) free m
    met = record {
      octets = octets_and_open al;
      items = item_way;
      choices = λ roots roots' e adds adds' h i k l n. choice_way roots roots' e adds adds' h i k l;
    }

    pub way : (s s' : Schema) → Extends s s' → is_lawful s ≡ true → is_lawful s' ≡ true → Way s s'
    way s s' h l l' = ways.way (bit_pieces al) (composed al) free (alike free al) (covered al) m met s s' h l l'
