-- What both versions of a type read of the beginning of one encoding in the octet rules can be carried over.
use Rattle.std.specs.Prelude.{ℤ, is_some}
use Rattle.std.proofs.Common.{◌≡◌, ℕ, zero, suc, not, Bool, true, false, ◌&&◌, ◌||◌, List, ◌∷◌, ◌++◌, refl, ap, sym, ◌∙◌, subst, append_assoc}
use Rattle.std.proofs.lemmas.Bool.{and_parts}
use Rattle.asn1_model.specs.Value.{Value, item, chosen}
use Rattle.asn1_model.specs.Schema.{Tag, Schema, enumerated}
use Rattle.asn1_model.specs.Schema.{choice, Alternatives}
use Rattle.asn1_model.specs.Schema.{no_alternative, alternative}
use Rattle.asn1_model.specs.Lawful.{is_lawful, are_distinct, tag_same, alternative_tags}
use Rattle.asn1_model.specs.Normal.{item_place}
use Rattle.asn1_model.specs.Form.{Reads}
use Rattle.std.specs.List.{list_all}
use Rattle.asn1_model.specs.Oer
use Rattle.asn1_model.specs.Versions.{carried_alternative, Begins, Extends, ExtendsAlternatives}
use Rattle.asn1_laws_fronts.proofs.Fronts.{agree_with_refused, agree_map, agree_if_right, agree_turned}
use Rattle.asn1_laws_fronts.proofs.OerNumbers.{OctetsAlike, counted_alike}
use Rattle.asn1_laws_fronts.proofs.OctetUnits.{items_alike}
use Rattle.asn1_laws_fronts.proofs.Tags.{tags_alike}
use Rattle.asn1_laws_fronts.proofs.Choices.{apart_from, each_before, two_tables, distinct_before, distinct_behind}
use Rattle.asn1_laws_versions.proofs.Taken.{taken, taken_same, taken_both, taken_refused, taken_if}
use Rattle.asn1_laws_versions.proofs.Parts.{Carried}
use Rattle.asn1_laws_versions.proofs.Members.{EachPairOf, AlternativeCarried}
use Rattle.asn1_laws_versions.proofs.Members.{item_carried, chosen_carried}
use Rattle.asn1_laws_versions.proofs.Members.{chosen_added_carried}
use Rattle.asn1_laws_values.proofs.OctetPieces.{octet_pieces, composed}
use Rattle.asn1_laws_fronts.proofs.OctetForms.{alike}
use Rattle.asn1_laws_versions.proofs.OerVersions.{covered}
use Rattle.asn1_laws_versions.proofs.Ways.{AreMet, open_meets_in}
use Rattle.asn1_laws_versions.proofs.Ways as ways

-- ---- tags of two versions
tags_begin : (more : Bool) (others others' : Alternatives) → ExtendsAlternatives more others others' → (us : List Tag) × (alternative_tags others ++ us ≡ alternative_tags others')
unfolding ExtendsAlternatives
tags_begin more no_alternative others' h = (alternative_tags others', refl)
tags_begin more (alternative t s others) no_alternative h = absurd h
tags_begin more (alternative t s others) (alternative t' s' others') h =
    let r = tags_begin more others others' h.2 in
    (r.0, ap (λ l. t ∷ l) r.1 ∙ ap (λ u. u ∷ alternative_tags others') h.0)

tags_kept : (others others' : Alternatives) → ExtendsAlternatives false others others' → alternative_tags others ≡ alternative_tags others'
unfolding ExtendsAlternatives
tags_kept no_alternative no_alternative h = refl
tags_kept no_alternative (alternative t' s' others') h = absurd h
tags_kept (alternative t s others) no_alternative h = absurd h
tags_kept (alternative t s others) (alternative t' s' others') h = ap (λ l. t ∷ l) (tags_kept others others' h.2) ∙ ap (λ u. u ∷ alternative_tags others') h.0

none_of : (t t' : Tag) (others : Alternatives) → t ≡ t' → list_all (λ u. not (tag_same t' u)) (alternative_tags others) ≡ true → list_all (λ u. not (tag_same t u)) (alternative_tags others) ≡ true
none_of t t' others e h = subst (λ t. list_all (λ u. not (tag_same t u)) (alternative_tags others) ≡ true) (sym e) h

none_of_older : (t : Tag) (more : Bool) (others others' : Alternatives) → ExtendsAlternatives more others others' →
    list_all (λ u. not (tag_same t u)) (alternative_tags others') ≡ true → list_all (λ u. not (tag_same t u)) (alternative_tags others) ≡ true
none_of_older t more others others' h e = let r = tags_begin more others others' h in
    each_before (λ u. not (tag_same t u)) (alternative_tags others) r.0 (subst (λ l. list_all (λ u. not (tag_same t u)) l ≡ true) (sym r.1) e)

distinct_older : (ts : List Tag) (more : Bool) (others others' : Alternatives) → ExtendsAlternatives more others others' →
    are_distinct tag_same (ts ++ alternative_tags others') ≡ true → are_distinct tag_same (ts ++ alternative_tags others) ≡ true
distinct_older ts more others others' h d =
    let r = tags_begin more others others' h in
    distinct_before tag_same (ts ++ alternative_tags others) r.0 (subst (λ l. are_distinct tag_same l ≡ true) (ap (λ l. ts ++ l) (sym r.1) ∙ sym (append_assoc ts (alternative_tags others) r.0)) d)

module _ (free : Oer.Freedom → Bool) where
  -- octets after their length determinant, and an open type
  octets_and_open : (os : List ℕ) (x : Oer.OctetForm) → OctetsAlike free (Oer.counted os) (Oer.open_type x) (Unit {0})
  unfolding Oer.open_type Reads
  octets_and_open os x = record {
    fronts = λ p a b r s f g e.
        let n : List ℕ = g.2.0 in
        let q = (counted_alike free os (g.0 ++ n)).fronts p a b r s f g.2.2 e in
        (q.0, tt);
  }

  module _ (m : Bool) where
    abbrev Met : Oer.OctetForm → Oer.OctetForm → Type 0 → Type 0
    Met x y P = OctetsAlike free (taken free m x) y P

    abbrev Way : Schema → Schema → Type 0
    Way s s' = (x v : Value) → Met (Oer.form s x) (Oer.form s' v) (Carried m s s' x v)

    -- ---- items
    place_there : (n k : ℤ) (roots adds : List ℤ) (e : Bool) → n ≡ k →
        (is_some (item_place n roots) || (e && is_some (item_place n adds))) ≡ true → (is_some (item_place k roots) || is_some (item_place k adds)) ≡ true
    place_there n k roots adds e q h = subst (λ k. (is_some (item_place k roots) || is_some (item_place k adds)) ≡ true) q
        (without_marker (is_some (item_place n roots)) e (is_some (item_place n adds)) h)
      where
        without_marker : (a e b : Bool) → (a || (e && b)) ≡ true → (a || b) ≡ true
        without_marker true e b h = refl
        without_marker false true b h = h
        without_marker false false b h = cc

    item_way : (roots adds adds' : List ℤ) (e : Bool) → Begins adds adds' → (n k : ℤ) →
        Met (Oer.form (enumerated roots e adds) (item n)) (Oer.form (enumerated roots e adds') (item k))
        (Carried m (enumerated roots e adds) (enumerated roots e adds') (item n) (item k))
    unfolding Oer.form
    item_way roots adds adds' e h n k = taken_if free m (is_some (item_place n roots) || (e && is_some (item_place n adds)))
        (Oer.item_form n) _ _ (λ i. agree_if_right free (is_some (item_place k roots) || (e && is_some (item_place k adds')))
        (λ j. agree_map free (λ q. item_carried m roots adds adds' e n k (place_there n k roots adds e q i)) (taken_same free m _ _ _ (items_alike free n k))))

    -- ---- choices
    abbrev Others : Alternatives → Alternatives → Type 0
    Others others others' = EachPairOf (λ s s'. Way s s') others others'

    tags_met : (t t' : Tag) → t ≡ t' → OctetsAlike free (Oer.tag_form t) (Oer.tag_form t') (Unit {0})
    tags_met t t' e = subst (λ u. OctetsAlike free (Oer.tag_form t) (Oer.tag_form u) (Unit {0})) e (agree_map free (λ q. tt) (tags_alike free t t))

    -- alternatives of one table, determined by their tags
    alternatives_way : (added more : Bool) (others others' : Alternatives) (i j : ℕ) (x v : Value) →
        ExtendsAlternatives more others others' → Others others others' → are_distinct tag_same (alternative_tags others') ≡ true →
        Met (Oer.alternative_form added others i x) (Oer.alternative_form added others' j v) ((i ≡ j) × AlternativeCarried m others others' i x v)
    unfolding Oer.alternative_form ExtendsAlternatives carried_alternative
    alternatives_way true more no_alternative others' i j x v h k d = taken_refused free m _ _
    alternatives_way false more no_alternative others' i j x v h k d = taken_refused free m _ _
    alternatives_way added more (alternative t s others) no_alternative i j x v h k d = absurd h
    alternatives_way true more (alternative t s others) (alternative t' s' others') zero zero x v h k d =
        agree_map free (λ q. (refl, q.1)) (taken_both free m _ _ _ _ _ _ (taken_same free m _ _ _ (tags_met t t' h.0)) (λ u. open_meets_in octet_pieces free (alike free) covered m _ _ _ (k.0 x v)))
    alternatives_way false more (alternative t s others) (alternative t' s' others') zero zero x v h k d =
        agree_map free (λ q. (refl, q.1)) (taken_both free m _ _ _ _ _ _ (taken_same free m _ _ _ (tags_met t t' h.0)) (λ u. k.0 x v))
    alternatives_way true more (alternative t s others) (alternative t' s' others') zero (suc j) x v h k d =
        taken_same free m _ _ _ (apart_from free t _ true others' j v _ (none_of t t' others' h.0 ((and_parts _ _ d).0)))
    alternatives_way false more (alternative t s others) (alternative t' s' others') zero (suc j) x v h k d =
        taken_same free m _ _ _ (apart_from free t _ false others' j v _ (none_of t t' others' h.0 ((and_parts _ _ d).0)))
    alternatives_way true more (alternative t s others) (alternative t' s' others') (suc i) zero x v h k d =
        taken_same free m _ _ _ (agree_turned free (apart_from free t' _ true others i x _ (none_of_older t' more others others' h.2 ((and_parts _ _ d).0))))
    alternatives_way false more (alternative t s others) (alternative t' s' others') (suc i) zero x v h k d =
        taken_same free m _ _ _ (agree_turned free (apart_from free t' _ false others i x _ (none_of_older t' more others others' h.2 ((and_parts _ _ d).0))))
    alternatives_way true more (alternative t s others) (alternative t' s' others') (suc i) (suc j) x v h k d =
        agree_map free (λ q. (ap suc q.0, q.1)) (alternatives_way true more others others' i j x v h.2 k.1 ((and_parts _ _ d).1))
    alternatives_way false more (alternative t s others) (alternative t' s' others') (suc i) (suc j) x v h k d =
        agree_map free (λ q. (ap suc q.0, q.1)) (alternatives_way false more others others' i j x v h.2 k.1 ((and_parts _ _ d).1))

    choice_way : (roots roots' : Alternatives) (e : Bool) (adds adds' : Alternatives) → ExtendsAlternatives false roots roots' →
        ExtendsAlternatives e adds adds' → Others roots roots' → Others adds adds' →
        are_distinct tag_same (alternative_tags roots' ++ alternative_tags adds') ≡ true → Way (choice roots e adds) (choice roots' e adds')
    unfolding Oer.form
    choice_way roots roots' e adds adds' h i k l d (chosen false a x) (chosen false b v) =
        agree_map free (λ q. chosen_carried m roots roots' adds adds' e e a b x v q.0 q.1)
        (alternatives_way false false roots roots' a b x v h k (distinct_before tag_same (alternative_tags roots') (alternative_tags adds') d))
    choice_way roots roots' true adds adds' h i k l d (chosen false a x) (chosen true b v) =
        taken_same free m _ _ _ (two_tables free roots adds' a b x v _ (subst (λ l. are_distinct tag_same (l ++ alternative_tags adds') ≡ true) (sym (tags_kept roots roots' h)) d))
    choice_way roots roots' false adds adds' h i k l d (chosen false a x) (chosen true b v) = agree_with_refused free _ _
    choice_way roots roots' true adds adds' h i k l d (chosen true a x) (chosen false b v) =
        taken_same free m _ _ _ (agree_turned free (two_tables free roots' adds b a v x _ (distinct_older (alternative_tags roots') true adds adds' i d)))
    choice_way roots roots' true adds adds' h i k l d (chosen true a x) (chosen true b v) =
        agree_map free (λ q. chosen_added_carried m roots roots' adds adds' true true a b x v q.0 q.1)
        (alternatives_way true true adds adds' a b x v i l (distinct_behind tag_same (alternative_tags roots') (alternative_tags adds') d))
    choice_way roots roots' false adds adds' h i k l d (chosen true a x) v = taken_refused free m _ _
    choice_way roots roots' e adds adds' h i k l d (chosen false a x) v = agree_with_refused free _ _
    choice_way roots roots' true adds adds' h i k l d (chosen true a x) v = agree_with_refused free _ _
    choice_way roots roots' e adds adds' h i k l d x v = taken_refused free m _ _

    choices : (roots roots' : Alternatives) (e : Bool) (adds adds' : Alternatives) → ExtendsAlternatives false roots roots' →
        ExtendsAlternatives e adds adds' → Others roots roots' → Others adds adds' → is_lawful (choice roots' e adds') ≡ true →
        Way (choice roots e adds) (choice roots' e adds')
    unfolding is_lawful
    choices roots roots' e adds adds' h i k l n =
        choice_way roots roots' e adds adds' h i k l ((and_parts _ _ ((and_parts _ _ ((and_parts _ _ n).0)).0)).1)

    met : AreMet octet_pieces free m
    met = record { octets = octets_and_open; items = item_way; choices = choices }

    pub way : (s s' : Schema) → Extends s s' → is_lawful s ≡ true → is_lawful s' ≡ true → Way s s'
    way s s' h l l' = ways.way octet_pieces composed free (alike free) covered m met s s' h l l'
