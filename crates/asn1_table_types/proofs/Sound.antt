-- Types that meet the conditions of lawful ones, unfolded to two levels, are lawful however deep they are unfolded.
use Rattle.std.proofs.Common.{◌≡◌, ◌∙◌, refl, sym, ap, ℕ, zero, suc, Bool, true, false, not, ◌&&◌, ◌||◌, List, [], ◌∷◌}
use Rattle.std.proofs.Common.{◌++◌, map, length, ◌<◌, ◌≤◌, ◌⊎◌, inl, inr, arith, Option, Some, None, slice_get}
use Rattle.std.proofs.lemmas.Bool.{and_parts, and_from, cases_lt}
use Rattle.std.proofs.lemmas.Option.{slice_get_past}
use lib.Pointwise.{pointwise}
use Rattle.asn1_model.specs.Schema.{Tag, Size, Counts, Schema, cut, sequence_of, set_of, sequence, set, choice, Components, Alternatives}
use Rattle.asn1_model.specs.Schema as model
use Rattle.asn1_model.specs.Lawful.{is_lawful, are_lawful, are_counts, is_group, is_optional, are_tags, are_tags_of}
use Rattle.asn1_model.specs.Lawful.{begins_with, has_typed_default, are_groups_in_place, are_no_components}
use Rattle.asn1_model.specs.Lawful.{are_distinct, are_ascending, tag_same, tag_less, component_tags, component_places}
use Rattle.asn1_model.specs.Lawful.{alternative_tags, are_lawful_alternatives}
use Rattle.asn1_schema_constraints.specs.Terms.{size_of}
use Rattle.asn1_schema_tags.specs.Tags.{tag_of}
use Rattle.asn1_table_nodes.specs.declared.nodes.TypeNode.{TypeNode}
use Rattle.asn1_table_nodes.specs.declared.nodes.TypeNode.TheVariants as node
use Rattle.asn1_table_nodes.specs.declared.nodes.Component.{Component}
use Rattle.asn1_table_nodes.specs.declared.nodes.Alternative.{Alternative}
use Rattle.asn1_table_nodes.specs.Meaning.{type_of, type_at, components_of, alternatives_of, presence_of}
use Rattle.asn1_table_types.specs.Flaws.{is_in_place, is_component, are_components, are_together, is_table}
use Rattle.asn1_table_types.specs.Flaws.{is_set_table, is_group_table, are_alternatives, are_choice_tags}
use Rattle.asn1_table_types.specs.Flaws.{is_choice_table, is_sound}
use Rattle.asn1_table_nodes.specs.Defaults.{have_defaults, has_defaults}
use Rattle.asn1_table_types.specs.Tables.{AreLawful}
use Rattle.asn1_table_types.proofs.TagLaws.{tags_are, none_are, places_are, among_are, class_is_one}

-- What a component asks of its type is met by a type s where it is by a type t.
record Serves (s t : Schema) : Type 0 where
  begins : (ts : List Tag) → begins_with ts t ≡ true → begins_with ts s ≡ true
  group : not (is_group t) ≡ true → not (is_group s) ≡ true

itself : (s : Schema) → Serves s s
itself s = record { begins = λ ts e. e; group = λ e. e }

cut_begins : (ts : List Tag) → begins_with ts cut ≡ true
cut_begins [] = refl
cut_begins (t ∷ []) = refl
cut_begins (t ∷ u ∷ us) = refl

cut_serves : (t : Schema) → Serves cut t
cut_serves t = record { begins = λ ts e. cut_begins ts; group = λ e. refl }

list_begins : (z : Size) (h : Counts) (s t : Schema) (ts : List Tag) → begins_with ts (sequence_of z h t) ≡ true → begins_with ts (sequence_of z h s) ≡ true
list_begins z h s t [] e = e
list_begins z h s t (u ∷ []) e = refl
list_begins z h s t (u ∷ v ∷ vs) e = e

bag_begins : (z : Size) (h : Counts) (s t : Schema) (ts : List Tag) → begins_with ts (set_of z h t) ≡ true → begins_with ts (set_of z h s) ≡ true
bag_begins z h s t [] e = e
bag_begins z h s t (u ∷ []) e = refl
bag_begins z h s t (u ∷ v ∷ vs) e = e

sequence_begins : (cs ds : Components) (x : Bool) (xs ys : Components) (ts : List Tag) → begins_with ts (sequence ds x ys) ≡ true → begins_with ts (sequence cs x xs) ≡ true
sequence_begins cs ds x xs ys [] e = e
sequence_begins cs ds x xs ys (u ∷ []) e = refl
sequence_begins cs ds x xs ys (u ∷ v ∷ vs) e = e

set_begins : (cs ds : Components) (x : Bool) (xs ys : Components) (ts : List Tag) → begins_with ts (set ds x ys) ≡ true → begins_with ts (set cs x xs) ≡ true
set_begins cs ds x xs ys [] e = e
set_begins cs ds x xs ys (u ∷ []) e = refl
set_begins cs ds x xs ys (u ∷ v ∷ vs) e = e

among_same : (f g : ℕ → Schema) (xs ys : List Alternative) → alternative_tags (alternatives_of f xs) ++ alternative_tags (alternatives_of f ys)
    ≡ alternative_tags (alternatives_of g xs) ++ alternative_tags (alternatives_of g ys)
among_same f g xs ys =
    ap (λ ts. ts ++ alternative_tags (alternatives_of f ys)) (among_are f xs ∙ sym (among_are g xs))
    ∙ ap (λ ts. alternative_tags (alternatives_of g xs) ++ ts) (among_are f ys ∙ sym (among_are g ys))

choice_begins : (rs qs : Alternatives) (x : Bool) (xs ys : Alternatives) → alternative_tags rs ++ alternative_tags xs ≡ alternative_tags qs ++ alternative_tags ys
    → (ts : List Tag) → begins_with ts (choice qs x ys) ≡ true → begins_with ts (choice rs x xs) ≡ true
choice_begins rs qs x xs ys h [] e = ap (λ us. pointwise tag_same [] us) h ∙ e
choice_begins rs qs x xs ys h (u ∷ []) e = refl
choice_begins rs qs x xs ys h (u ∷ v ∷ vs) e = ap (λ us. pointwise tag_same (u ∷ v ∷ vs) us) h ∙ e

-- At any number of levels a type serves where it does at one level.
serves : (ns : List TypeNode) (n : ℕ) (o : Option TypeNode) → Serves (type_of ns n o) (type_of ns 1 o)
serves ns zero (Some (node.SequenceOf z i)) = cut_serves _
serves ns zero (Some (node.SetOf z i)) = cut_serves _
serves ns zero (Some (node.Sequence t)) = cut_serves _
serves ns zero (Some (node.Set t)) = cut_serves _
serves ns zero (Some (node.Group cs)) = cut_serves _
serves ns zero (Some (node.Choice t)) = cut_serves _
serves ns (suc n) (Some (node.SequenceOf z i)) = record {
  begins = list_begins _ _ _ _;
  group = λ e. refl;
}
serves ns (suc n) (Some (node.SetOf z i)) = record {
  begins = bag_begins _ _ _ _;
  group = λ e. refl;
}
serves ns (suc n) (Some (node.Sequence t)) = record {
  begins = sequence_begins _ _ _ _ _;
  group = λ e. refl;
}
serves ns (suc n) (Some (node.Set t)) = record {
  begins = set_begins _ _ _ _ _;
  group = λ e. refl;
}
serves ns (suc n) (Some (node.Group cs)) = record {
  begins = λ ts e. ap (λ us. pointwise tag_same ts us) (tags_are (λ i. type_at ns n i) cs.items ∙ sym (tags_are (λ i. type_at ns 0 i) cs.items)) ∙ e;
  group = λ e. e;
}
serves ns (suc n) (Some (node.Choice t)) = record {
  begins = choice_begins (alternatives_of (λ i. type_at ns n i) t.root.items) (alternatives_of (λ i. type_at ns 0 i) t.root.items) t.is_extensible
      (alternatives_of (λ i. type_at ns n i) t.additions.items) (alternatives_of (λ i. type_at ns 0 i) t.additions.items)
      (among_same (λ i. type_at ns n i) (λ i. type_at ns 0 i) t.root.items t.additions.items);
  group = λ e. refl;
}
serves ns n None = itself _
serves ns n (Some node.Boolean) = itself _
serves ns n (Some node.Null) = itself _
serves ns n (Some (node.Integer l)) = itself _
serves ns n (Some (node.Enumerated t)) = itself _
serves ns n (Some (node.BitString z)) = itself _
serves ns n (Some (node.OctetString z)) = itself _
serves ns n (Some (node.CharacterString t)) = itself _
serves ns n (Some node.ObjectIdentifier) = itself _

in_place : (added : Bool) (o : model.Presence) {s t : Schema} → Serves s t → is_in_place added o t ≡ true → is_in_place added o s ≡ true
in_place false o {s = s} {t = t} v e = v.group e
in_place true o {s = s} {t = t} v e = go (not (is_group t)) (not (is_group s)) (is_optional o) refl refl e where
  go : (a b c : Bool) → not (is_group t) ≡ a → not (is_group s) ≡ b → (a || c) ≡ true → (b || c) ≡ true
  go true b c f g h = ap (λ x. x || c) (sym g ∙ v.group f)
  go false true c f g h = refl
  go false false c f g h = h

-- ---- components

module _ (f g : ℕ → Schema) (v : (i : ℕ) → Serves (g i) (f i)) where
  component_parts : (added : Bool) (c : Component) (cs : List Component) → are_components added (components_of f (c ∷ cs)) ≡ true
      → (are_tags_of (map tag_of c.tags.items) (f c.place) ≡ true) × (is_in_place added (presence_of c.presence) (f c.place) ≡ true) × (are_components added (components_of f cs) ≡ true)
  component_parts added c cs e =
      let ts = map tag_of c.tags.items in
      let o = presence_of c.presence in
      let s = f c.place in
      let a = and_parts (is_component added ts o s) (are_components added (components_of f cs)) e in
      let b = and_parts (are_tags_of ts s) (is_in_place added o s) a.0 in
      (b.0, b.1, a.1)

  tagged : (ts : List Tag) (i : ℕ) → are_tags_of ts (f i) ≡ true → are_tags_of ts (g i) ≡ true
  tagged ts i e = let a = and_parts (are_tags ts) (begins_with ts (f i)) e in and_from _ _ a.0 ((v i).begins ts a.1)

  parts_lawful : (added : Bool) (cs : List Component) → ((i : ℕ) → is_lawful (g i) ≡ true) → have_defaults (components_of g cs) ≡ true →
      are_components added (components_of f cs) ≡ true → are_lawful (components_of g cs) ≡ true
  unfolding are_lawful
  parts_lawful added [] h k e = refl
  parts_lawful added (c ∷ cs) h k e =
      let p = component_parts added c cs e in
      let q = and_parts (has_typed_default (g c.place) (presence_of c.presence)) (have_defaults (components_of g cs)) k in
      and_from _ _ (and_from _ _ (and_from _ _ (tagged (map tag_of c.tags.items) c.place p.0) q.0) (h c.place)) (parts_lawful added cs h q.1 p.2)

  groups_placed : (added : Bool) (cs : List Component) → are_components added (components_of f cs) ≡ true → are_groups_in_place added (components_of g cs) ≡ true
  groups_placed added [] e = refl
  groups_placed added (c ∷ cs) e =
      let p = component_parts added c cs e in
      and_from _ _ (in_place added (presence_of c.presence) (v c.place) p.1) (groups_placed added cs p.2)

  together : (cs : List Component) (e : Bool) (adds : List Component) → are_together (components_of f cs) e (components_of f adds) ≡ true →
      are_together (components_of g cs) e (components_of g adds) ≡ true
  together cs e adds h =
      let a : are_no_components (components_of g adds) ≡ are_no_components (components_of f adds) = none_are g adds ∙ sym (none_are f adds) in
      let b : component_tags (components_of g cs) ≡ component_tags (components_of f cs) = tags_are g cs ∙ sym (tags_are f cs) in
      let d : component_tags (components_of g adds) ≡ component_tags (components_of f adds) = tags_are g adds ∙ sym (tags_are f adds) in
      ap (λ x. (e || x) && are_distinct tag_same (component_tags (components_of g cs) ++ component_tags (components_of g adds))) a
      ∙ ap (λ xs. (e || are_no_components (components_of f adds)) && are_distinct tag_same (xs ++ component_tags (components_of g adds))) b
      ∙ ap (λ xs. (e || are_no_components (components_of f adds)) && are_distinct tag_same (component_tags (components_of f cs) ++ xs)) d
      ∙ h

  sequence_lawful : (cs : List Component) (e : Bool) (adds : List Component) → ((i : ℕ) → is_lawful (g i) ≡ true) →
      (have_defaults (components_of g cs) && have_defaults (components_of g adds)) ≡ true → is_table (components_of f cs) e (components_of f adds)
      ≡ true → is_lawful (sequence (components_of g cs) e (components_of g adds)) ≡ true
  unfolding is_lawful
  sequence_lawful cs e adds h d k =
      let w = and_parts (have_defaults (components_of g cs)) (have_defaults (components_of g adds)) d in
      let a = and_parts (are_together (components_of f cs) e (components_of f adds)) (are_components false (components_of f cs) && are_components true (components_of f adds)) k in
      let b = and_parts (are_components false (components_of f cs)) (are_components true (components_of f adds)) a.1 in
      and_from _ _ (and_from _ _ (and_from _ _ (and_from _ _ (together cs e adds a.0) (groups_placed false cs b.0)) (groups_placed true adds b.1))
      (parts_lawful false cs h w.0 b.0)) (parts_lawful true adds h w.1 b.1)

  set_lawful : (cs : List Component) (e : Bool) (adds : List Component) → ((i : ℕ) → is_lawful (g i) ≡ true) →
      (have_defaults (components_of g cs) && have_defaults (components_of g adds)) ≡ true → is_set_table (components_of f cs) e (components_of f adds)
      ≡ true → is_lawful (set (components_of g cs) e (components_of g adds)) ≡ true
  unfolding is_lawful
  set_lawful cs e adds h d k =
      let w = and_parts (have_defaults (components_of g cs)) (have_defaults (components_of g adds)) d in
      let o = and_parts (is_table (components_of f cs) e (components_of f adds)) (are_ascending tag_less (component_places (components_of f cs))) k in
      let a = and_parts (are_together (components_of f cs) e (components_of f adds)) (are_components false (components_of f cs) && are_components true (components_of f adds)) o.0 in
      let b = and_parts (are_components false (components_of f cs)) (are_components true (components_of f adds)) a.1 in
      let p : are_ascending tag_less (component_places (components_of g cs)) ≡ true = ap (λ ts. are_ascending tag_less ts) (places_are g cs ∙ sym (places_are f cs)) ∙ o.1 in
      and_from _ _ (and_from _ _
      (and_from _ _ (and_from _ _ (and_from _ _ (together cs e adds a.0) (groups_placed false cs b.0)) (groups_placed true adds b.1)) p)
      (parts_lawful false cs h w.0 b.0)) (parts_lawful true adds h w.1 b.1)

  group_lawful : (cs : List Component) → ((i : ℕ) → is_lawful (g i) ≡ true) → have_defaults (components_of g cs) ≡ true →
      is_group_table (components_of f cs) ≡ true → is_lawful (model.group (components_of g cs)) ≡ true
  unfolding is_lawful
  group_lawful cs h d k =
      let a = and_parts (not (are_no_components (components_of f cs)) && are_distinct tag_same (component_tags (components_of f cs))) (are_components false (components_of f cs)) k in
      let b = and_parts (not (are_no_components (components_of f cs))) (are_distinct tag_same (component_tags (components_of f cs))) a.0 in
      let p : not (are_no_components (components_of g cs)) ≡ true = ap not (none_are g cs ∙ sym (none_are f cs)) ∙ b.0 in
      let q : are_distinct tag_same (component_tags (components_of g cs)) ≡ true = ap (λ ts. are_distinct tag_same ts) (tags_are g cs ∙ sym (tags_are f cs)) ∙ b.1 in
      and_from _ _ (and_from _ _ (and_from _ _ p q) (groups_placed false cs a.1)) (parts_lawful false cs h d a.1)

  others_lawful : (xs : List Alternative) → ((i : ℕ) → is_lawful (g i) ≡ true) → are_alternatives (alternatives_of f xs) ≡ true → are_lawful_alternatives (alternatives_of g xs) ≡ true
  unfolding are_lawful_alternatives
  others_lawful [] h e = refl
  others_lawful (x ∷ xs) h e =
      let a = and_parts (not (is_group (f x.place))) (are_alternatives (alternatives_of f xs)) e in
      and_from _ _ (and_from _ _ (and_from _ _ (class_is_one x.tag.class x.tag.value) ((v x.place).group a.0)) (h x.place)) (others_lawful xs h a.1)

  choice_lawful : (xs : List Alternative) (e : Bool) (ys : List Alternative) → ((i : ℕ) → is_lawful (g i) ≡ true) →
      is_choice_table (alternatives_of f xs) e (alternatives_of f ys) ≡ true → is_lawful (choice (alternatives_of g xs) e (alternatives_of g ys)) ≡ true
  unfolding is_lawful
  choice_lawful xs e ys h k =
      let a = and_parts (are_choice_tags (alternative_tags (alternatives_of f xs)) e (alternative_tags (alternatives_of f ys)))
      (are_alternatives (alternatives_of f xs) && are_alternatives (alternatives_of f ys)) k in
      let b = and_parts (are_alternatives (alternatives_of f xs)) (are_alternatives (alternatives_of f ys)) a.1 in
      let p : are_choice_tags (alternative_tags (alternatives_of g xs)) e (alternative_tags (alternatives_of g ys)) ≡ true =
      ap (λ ts. are_choice_tags ts e (alternative_tags (alternatives_of g ys))) (among_are g xs ∙ sym (among_are f xs))
      ∙ ap (λ ts. are_choice_tags (alternative_tags (alternatives_of f xs)) e ts) (among_are g ys ∙ sym (among_are f ys)) ∙ a.0 in
      and_from _ _ (and_from _ _ p (others_lawful xs h b.0)) (others_lawful ys h b.1)

-- ---- all types of a table

module _ (ns : List TypeNode) (sound : (i : ℕ) → is_sound (type_at ns 2 i) ≡ true) (typed : (n i : ℕ) → has_defaults (type_at ns n i) ≡ true) where
  lawful_at : (n : ℕ) (o : Option TypeNode) → is_sound (type_of ns 2 o) ≡ true → has_defaults (type_of ns n o) ≡ true → is_lawful (type_of ns n o) ≡ true
  unfolding is_lawful
  lawful_at zero (Some (node.SequenceOf z i)) e d = refl
  lawful_at zero (Some (node.SetOf z i)) e d = refl
  lawful_at zero (Some (node.Sequence t)) e d = refl
  lawful_at zero (Some (node.Set t)) e d = refl
  lawful_at zero (Some (node.Group cs)) e d = refl
  lawful_at zero (Some (node.Choice t)) e d = refl
  lawful_at (suc n) (Some (node.SequenceOf z i)) e d =
      let a = and_parts (are_counts (size_of z).counts) (not (is_group (type_at ns 1 i))) e in
      and_from _ _ (and_from _ _ (and_from _ _ a.0 refl) ((serves ns n (slice_get ns i)).group a.1)) (lawful_at n (slice_get ns i) (sound i) (typed n i))
  lawful_at (suc n) (Some (node.SetOf z i)) e d =
      let a = and_parts (are_counts (size_of z).counts) (not (is_group (type_at ns 1 i))) e in
      and_from _ _ (and_from _ _ (and_from _ _ a.0 refl) ((serves ns n (slice_get ns i)).group a.1)) (lawful_at n (slice_get ns i) (sound i) (typed n i))
  lawful_at (suc n) (Some (node.Sequence t)) e d =
      sequence_lawful (λ i. type_at ns 1 i) (λ i. type_at ns n i) (λ i. serves ns n (slice_get ns i)) t.root.items t.is_extensible t.additions.items
      (λ i. lawful_at n (slice_get ns i) (sound i) (typed n i)) d e
  lawful_at (suc n) (Some (node.Set t)) e d =
      set_lawful (λ i. type_at ns 1 i) (λ i. type_at ns n i) (λ i. serves ns n (slice_get ns i)) t.root.items t.is_extensible t.additions.items
      (λ i. lawful_at n (slice_get ns i) (sound i) (typed n i)) d e
  lawful_at (suc n) (Some (node.Group cs)) e d =
      group_lawful (λ i. type_at ns 1 i) (λ i. type_at ns n i) (λ i. serves ns n (slice_get ns i)) cs.items
      (λ i. lawful_at n (slice_get ns i) (sound i) (typed n i)) d e
  lawful_at (suc n) (Some (node.Choice t)) e d =
      choice_lawful (λ i. type_at ns 1 i) (λ i. type_at ns n i) (λ i. serves ns n (slice_get ns i)) t.root.items t.is_extensible t.additions.items
      (λ i. lawful_at n (slice_get ns i) (sound i) (typed n i)) e
  lawful_at n None e d = refl
  lawful_at n (Some node.Boolean) e d = refl
  lawful_at n (Some node.Null) e d = refl
  lawful_at n (Some (node.Integer None)) e d = refl
  lawful_at n (Some (node.Integer (Some l))) e d = and_from _ _ e refl
  lawful_at n (Some (node.Enumerated t)) e d = e
  lawful_at n (Some (node.BitString z)) e d = and_from _ _ e refl
  lawful_at n (Some (node.OctetString z)) e d = and_from _ _ e refl
  lawful_at n (Some (node.CharacterString t)) e d = and_from _ _ e refl
  lawful_at n (Some node.ObjectIdentifier) e d = refl

  pub all_lawful : AreLawful ns
  all_lawful n i = lawful_at n (slice_get ns i) (sound i) (typed n i)

-- Types that meet it at each index of a table meet it at every index.
pub everywhere : (ns : List TypeNode) (n : ℕ) → length ns ≤ n → ((i : ℕ) → i < n → is_sound (type_at ns 2 i) ≡ true) → (i : ℕ) → is_sound (type_at ns 2 i) ≡ true
everywhere ns n h sound i = go (cases_lt i n) where
  go : (i < n) ⊎ (n ≤ i) → is_sound (type_at ns 2 i) ≡ true
  go (inl l) = sound i l
  go (inr l) = ap (λ o. is_sound (type_of ns 2 o)) (slice_get_past ns i (omega (arith, h, l)))

pub typed_everywhere : (ns : List TypeNode) (n : ℕ) → length ns ≤ n → ((i : ℕ) → i < n → (m : ℕ) → has_defaults (type_at ns m i) ≡ true) → (m i : ℕ) → has_defaults (type_at ns m i) ≡ true
typed_everywhere ns n h typed m i = go (cases_lt i n) where
  go : (i < n) ⊎ (n ≤ i) → has_defaults (type_at ns m i) ≡ true
  go (inl l) = typed i l m
  go (inr l) = ap (λ o. has_defaults (type_of ns m o)) (slice_get_past ns i (omega (arith, h, l)))
