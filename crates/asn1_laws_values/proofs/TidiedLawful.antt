-- A well-formed type stays so with each default in normal form, and has the same values.
use Rattle.std.proofs.Common.{◌≡◌, ℕ, zero, suc, Bool, true, false, not, ◌&&◌, ◌||◌, List, [], ◌∷◌, ◌++◌, refl, ap, sym, ◌∙◌}
use Rattle.std.proofs.lemmas.Bool.{and_parts, and_from}
use Rattle.asn1_model.specs.Value.{Value, members, bag, fields, chosen, Parts, end, absent, present}
use Rattle.asn1_model.specs.Schema.{Tag, Presence, required, optional, by_default, Schema, sequence_of, set_of}
use Rattle.asn1_model.specs.Schema.{sequence, set, group, choice, Components, no_component, component, Alternatives}
use Rattle.asn1_model.specs.Schema.{no_alternative, alternative}
use Rattle.asn1_model.specs.Normal.{normal}
use Rattle.asn1_model.specs.Value.{are_all}
use Rattle.asn1_model.specs.Numbers.{is_count_within}
use Rattle.asn1_model.specs.Normal.{is_required}
use Rattle.asn1_model.specs.Lawful.{member_count, is_of, are_of, is_of_alternative, are_groups_in_place}
use Rattle.asn1_model.specs.Lawful.{tag_less, tag_same, are_distinct, are_ascending, component_tags, component_places}
use Rattle.asn1_model.specs.Lawful.{smallest, alternative_tags, are_no_components, is_empty, is_group, is_optional}
use Rattle.asn1_model.specs.Lawful.{is_sequence_table, begins_with, has_typed_default, is_lawful, are_lawful}
use Rattle.asn1_model.specs.Lawful.{are_lawful_alternatives}
use Rattle.asn1_laws_values.proofs.Typed.{normal_is_of}
use Rattle.asn1_laws_values.specs.Tidied.{changed_default, tidied, tidied_each, tidied_alternatives}
use Rattle.asn1_laws_values.proofs.Carried.{tidied_normal}
use lib.Pointwise.{pointwise}

-- ---- values of the type
required_still : (f : Value → Value) (o : Presence) → is_required (changed_default f o) ≡ is_required o
required_still f required = refl
required_still f optional = refl
required_still f (by_default d) = refl

mutual
  unfolding tidied tidied_each tidied_alternatives is_of are_of is_of_alternative

  pub tidied_is_of : (s : Schema) (v : Value) → is_of (tidied s) v ≡ is_of s v
  tidied_is_of (sequence_of z h s) (members vs) = λ i. is_count_within h (member_count vs) && are_all (λ v. tidied_is_of s v i) vs
  tidied_is_of (set_of z h s) (bag vs) = λ i. is_count_within h (member_count vs) && are_all (λ v. tidied_is_of s v i) vs
  tidied_is_of (sequence cs e adds) (fields ps qs) = λ i. tidied_are_of cs ps i && tidied_are_of adds qs i
  tidied_is_of (set cs e adds) (fields ps qs) = λ i. tidied_are_of cs ps i && tidied_are_of adds qs i
  tidied_is_of (group cs) (fields ps end) = tidied_are_of cs ps
  tidied_is_of (choice roots e adds) (chosen false j v) = tidied_is_of_alternative roots j v
  tidied_is_of (choice roots e adds) (chosen true j v) = ap (λ b. e && b) (tidied_is_of_alternative adds j v)
  tidied_is_of s v = refl

  tidied_are_of : (cs : Components) (ps : Parts) → are_of (tidied_each cs) ps ≡ are_of cs ps
  tidied_are_of no_component ps = refl
  tidied_are_of (component t o s cs) (present v ps) = λ i. tidied_is_of s v i && tidied_are_of cs ps i
  tidied_are_of (component t o s cs) (absent ps) = λ i. not (required_still (λ d. normal s d) o i) && tidied_are_of cs ps i
  tidied_are_of (component t o s cs) end = refl

  tidied_is_of_alternative : (os : Alternatives) (j : ℕ) (v : Value) → is_of_alternative (tidied_alternatives os) j v ≡ is_of_alternative os j v
  tidied_is_of_alternative no_alternative j v = refl
  tidied_is_of_alternative (alternative t s os) zero v = tidied_is_of s v
  tidied_is_of_alternative (alternative t s os) (suc j) v = tidied_is_of_alternative os j v

-- ---- tables
optional_still : (f : Value → Value) (o : Presence) → is_optional (changed_default f o) ≡ is_optional o
optional_still f required = refl
optional_still f optional = refl
optional_still f (by_default d) = refl

group_still : (s : Schema) → is_group (tidied s) ≡ is_group s
unfolding tidied
group_still (sequence_of z h s) = refl
group_still (set_of z h s) = refl
group_still (sequence cs e adds) = refl
group_still (set cs e adds) = refl
group_still (group cs) = refl
group_still (choice roots e adds) = refl
group_still s = refl

none_still : (cs : Components) → are_no_components (tidied_each cs) ≡ are_no_components cs
unfolding tidied_each
none_still no_component = refl
none_still (component t o s cs) = refl

tags_still : (cs : Components) → component_tags (tidied_each cs) ≡ component_tags cs
unfolding tidied_each
tags_still no_component = refl
tags_still (component t o s cs) = ap (λ l. t ++ l) (tags_still cs)

places_still : (cs : Components) → component_places (tidied_each cs) ≡ component_places cs
unfolding tidied_each
places_still no_component = refl
places_still (component [] o s cs) = places_still cs
places_still (component (t ∷ ts) o s cs) = ap (λ l. smallest t ts ∷ l) (places_still cs)

alternative_tags_still : (os : Alternatives) → alternative_tags (tidied_alternatives os) ≡ alternative_tags os
unfolding tidied_alternatives
alternative_tags_still no_alternative = refl
alternative_tags_still (alternative t s os) = ap (λ l. t ∷ l) (alternative_tags_still os)

no_group_still : (cs : Components) → are_groups_in_place false (tidied_each cs) ≡ are_groups_in_place false cs
unfolding tidied_each
no_group_still no_component = refl
no_group_still (component t o s cs) = λ i. not (group_still s i) && no_group_still cs i

groups_still : (cs : Components) → are_groups_in_place true (tidied_each cs) ≡ are_groups_in_place true cs
unfolding tidied_each
groups_still no_component = refl
groups_still (component t o s cs) = λ i. (not (group_still s i) || optional_still (λ d. normal s d) o i) && groups_still cs i

-- the tags with which a type begins
begins_still : (ts : List Tag) (s : Schema) → begins_with ts (tidied s) ≡ begins_with ts s
unfolding tidied
begins_still ts (group cs) = ap (pointwise tag_same ts) (tags_still cs)
begins_still (t ∷ []) s = refl
begins_still [] (choice roots e adds) = λ i. pointwise tag_same [] (alternative_tags_still roots i ++ alternative_tags_still adds i)
begins_still (t ∷ u ∷ ts) (choice roots e adds) = λ i. pointwise tag_same (t ∷ u ∷ ts) (alternative_tags_still roots i ++ alternative_tags_still adds i)
begins_still ts s = refl

table_still : (cs : Components) (e : Bool) (adds : Components) → is_sequence_table (tidied_each cs) e (tidied_each adds) ≡ is_sequence_table cs e adds
table_still cs e adds = λ i. (e || none_still adds i) && are_distinct tag_same (tags_still cs i ++ tags_still adds i) && no_group_still cs i && groups_still adds i

alternatives_table : (roots : Alternatives) (e : Bool) (adds : Alternatives) →
    (not (is_empty (alternative_tags (tidied_alternatives roots))) && (e || is_empty (alternative_tags (tidied_alternatives adds)))
    && are_ascending tag_less (alternative_tags (tidied_alternatives roots)) && are_distinct tag_same (alternative_tags (tidied_alternatives roots) ++ alternative_tags (tidied_alternatives adds)))
    ≡ (not (is_empty (alternative_tags roots)) && (e || is_empty (alternative_tags adds))
    && are_ascending tag_less (alternative_tags roots) && are_distinct tag_same (alternative_tags roots ++ alternative_tags adds))
alternatives_table roots e adds = λ i. not (is_empty (alternative_tags_still roots i))
    && (e || is_empty (alternative_tags_still adds i)) && are_ascending tag_less (alternative_tags_still roots i)
    && are_distinct tag_same (alternative_tags_still roots i ++ alternative_tags_still adds i)

-- ---- well-formed, with each default in normal form
typed_still : (s : Schema) (o : Presence) → is_lawful (tidied s) ≡ true → has_typed_default s o ≡ true → has_typed_default (tidied s) (changed_default (λ d. normal s d) o) ≡ true
typed_still s required l h = refl
typed_still s optional l h = refl
typed_still s (by_default d) l h = ap (is_of (tidied s)) (sym (tidied_normal s d)) ∙ normal_is_of (tidied s) d l (tidied_is_of s d ∙ h)

mutual
  unfolding tidied tidied_each tidied_alternatives is_lawful are_lawful are_lawful_alternatives

  pub tidied_is_lawful : (s : Schema) → is_lawful s ≡ true → is_lawful (tidied s) ≡ true
  tidied_is_lawful (sequence_of z h s) l = let p = and_parts _ _ l in let q = and_parts _ _ p.0 in and_from _ _ (and_from _ _ q.0 (ap not (group_still s) ∙ q.1)) (tidied_is_lawful s p.1)
  tidied_is_lawful (set_of z h s) l = let p = and_parts _ _ l in let q = and_parts _ _ p.0 in and_from _ _ (and_from _ _ q.0 (ap not (group_still s) ∙ q.1)) (tidied_is_lawful s p.1)
  tidied_is_lawful (sequence cs e adds) l =
      let p = and_parts _ _ l in
      let q = and_parts _ _ p.0 in
      and_from _ _ (and_from _ _ (table_still cs e adds ∙ q.0) (each_still cs q.1)) (each_still adds p.1)
  tidied_is_lawful (set cs e adds) l =
      let p = and_parts _ _ l in
      let q = and_parts _ _ p.0 in
      let r = and_parts _ _ q.0 in
      and_from _ _ (and_from _ _ (and_from _ _ (table_still cs e adds ∙ r.0) (ap (are_ascending tag_less) (places_still cs) ∙ r.1)) (each_still cs q.1)) (each_still adds p.1)
  tidied_is_lawful (group cs) l =
      let p = and_parts _ _ l in
      let q = and_parts _ _ p.0 in
      let r = and_parts _ _ q.0 in
      and_from _ _ (and_from _ _ (and_from _ _ (ap not (none_still cs) ∙ r.0) (ap (are_distinct tag_same) (tags_still cs) ∙ r.1)) (no_group_still cs ∙ q.1)) (each_still cs p.1)
  tidied_is_lawful (choice roots e adds) l =
      let p = and_parts _ _ l in
      let q = and_parts _ _ p.0 in
      and_from _ _ (and_from _ _ (alternatives_table roots e adds ∙ q.0) (alternatives_still roots q.1)) (alternatives_still adds p.1)
  tidied_is_lawful s l = l

  each_still : (cs : Components) → are_lawful cs ≡ true → are_lawful (tidied_each cs) ≡ true
  each_still no_component l = refl
  each_still (component t o s cs) l =
      let p = and_parts _ _ l in
      let q = and_parts _ _ p.0 in
      let r = and_parts _ _ q.0 in
      let k = tidied_is_lawful s q.1 in
      let g = and_parts _ _ r.0 in
      and_from _ _ (and_from _ _ (and_from _ _ (and_from _ _ g.0 (begins_still t s ∙ g.1)) (typed_still s o k r.1)) k) (each_still cs p.1)

  alternatives_still : (os : Alternatives) → are_lawful_alternatives os ≡ true → are_lawful_alternatives (tidied_alternatives os) ≡ true
  alternatives_still no_alternative l = refl
  alternatives_still (alternative t s os) l =
      let p = and_parts _ _ l in
      let q = and_parts _ _ p.0 in
      let r = and_parts _ _ q.0 in
      and_from _ _ (and_from _ _ (and_from _ _ r.0 (ap not (group_still s) ∙ r.1)) (tidied_is_lawful s q.1)) (alternatives_still os p.1)
