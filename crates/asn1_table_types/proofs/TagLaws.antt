-- Tags of components, whatever their types.
use Rattle.std.proofs.Common.{◌≡◌, ◌∙◌, refl, sym, ap, ℕ, Some, cond, Bool, true, false, not, ◌&&◌, ◌||◌, ◌==◌, List, [], ◌∷◌, ◌++◌, map, length, arith}
use Rattle.std.proofs.lemmas.Bool.{and_from, or_left, ne_eqb, eq-eqb}
use Rattle.std.specs.List.{list_all}
use lib.Pointwise.{pointwise}
use Rattle.asn1_model.specs.Schema.{Schema, Components, group, choice}
use Rattle.asn1_model.specs.Schema as model
use Rattle.asn1_model.specs.Lawful.{component_tags, are_no_components, is_tag, is_empty, are_tags, begins_with}
use Rattle.asn1_model.specs.Lawful.{are_distinct, are_ascending, tag_same, tag_less, component_places, alternative_tags}
use Rattle.asn1_model.specs.Lawful.{smallest}
use Rattle.asn1_schema_tags.specs.Tags.{tag_of, class_number}
use Rattle.asn1_schema_tags.specs.declared.tags.Class.{Class}
use Rattle.asn1_schema_tags.specs.declared.tags.Class.TheVariants.{Universal, Application, Context, Private}
use Rattle.asn1_schema_tags.specs.declared.tags.Tag.{Tag}
use Rattle.asn1_table_types.specs.declared.faults.Flaw.TheVariants.{MarkerMissing, TagTwice, TagsOutOfOrder, ComponentMissing, AlternativeMissing}
use Rattle.asn1_table_nodes.specs.declared.nodes.Alternative.{Alternative}
use Rattle.asn1_table_nodes.specs.declared.nodes.Component.{Component}
use Rattle.asn1_table_nodes.specs.declared.nodes.Presence.{Presence}
use Rattle.asn1_table_nodes.specs.declared.nodes.TypeNode.{TypeNode}
use Rattle.asn1_table_nodes.specs.declared.nodes.TypeNode.TheVariants as node
use Rattle.asn1_table_types.proofs.Lists.{empty_length}
use Rattle.asn1_table_types.specs.Flaws.{is_in_place, is_component, are_components, is_table, table_lacks, order_lacks}
use Rattle.asn1_table_types.specs.Flaws.{is_set_table, group_lacks, is_group_table, choice_lacks, is_choice_table}
use Rattle.asn1_table_types.specs.Flaws.{are_alternatives}
use Rattle.asn1_table_nodes.specs.Meaning.{components_of, tags_in, places_in, least_of, presence_of, alternatives_of, tags_among, is_plain, type_of}

-- the tags of components are those that they are given
pub tags_are : (f : ℕ → Schema) (cs : List Component) → component_tags (components_of f cs) ≡ tags_in cs
tags_are f [] = refl
tags_are f (c ∷ cs) = ap (λ ts. map tag_of c.tags.items ++ ts) (tags_are f cs)

pub class_is_one : (c : Class) (n : ℕ) → is_tag (record { class = class_number c; number = n }) ≡ true
class_is_one Universal n = refl
class_is_one Application n = refl
class_is_one Context n = refl
class_is_one Private n = refl

-- tags of the program have one of the four classes
pub classes_are : (ts : List Tag) → list_all is_tag (map tag_of ts) ≡ true
classes_are [] = refl
classes_are (t ∷ ts) = and_from _ _ (class_is_one t.class t.value) (classes_are ts)

-- there are components or none, whatever their types
pub none_are : (f : ℕ → Schema) (cs : List Component) → are_no_components (components_of f cs) ≡ is_empty cs
none_are f [] = refl
none_are f (c ∷ cs) = refl

-- components without an extension marker, and with a tag twice
pub marked : (f : ℕ → Schema) (cs : Components) (e : Bool) (adds : List Component) → (e || are_no_components (components_of f adds)) ≡ (e || is_empty adds)
marked f cs e adds = ap (λ x. e || x) (none_are f adds)

pub tags_together : (f : ℕ → Schema) (cs adds : List Component) →
    are_distinct tag_same (component_tags (components_of f cs) ++ component_tags (components_of f adds)) ≡ are_distinct tag_same (tags_in cs ++ tags_in adds)
tags_together f cs adds =
    ap (λ xs. are_distinct tag_same (xs ++ component_tags (components_of f adds))) (tags_are f cs)
    ∙ ap (λ xs. are_distinct tag_same (tags_in cs ++ xs)) (tags_are f adds)

unlike : {a b c : Bool} → a ≡ b → a ≡ false → c ≡ b → not c ≡ true
unlike p q r = ap not (r ∙ sym p ∙ q)

alike : {a b c : Bool} → a ≡ b → a ≡ true → c ≡ b → c ≡ true
alike p q r = r ∙ sym p ∙ q

-- what a table lacks that has additions and no extension marker
pub unmarked_lacks : (f : ℕ → Schema) (cs : List Component) (e : Bool) (adds : List Component) {a : Bool} → a ≡ (e || is_empty adds) → a ≡ false →
    table_lacks MarkerMissing (components_of f cs) e (components_of f adds) ≡ true
unmarked_lacks f cs e adds p q = or_left _ _ (unlike p q (marked f (components_of f cs) e adds))

-- what a table lacks in which a tag occurs twice
pub twice_lacks : (f : ℕ → Schema) (cs : List Component) (e : Bool) (adds : List Component) {a : Bool} →
    a ≡ are_distinct tag_same (tags_in cs ++ tags_in adds) → a ≡ false → table_lacks TagTwice (components_of f cs) e (components_of f adds) ≡ true
twice_lacks f cs e adds p q = or_left _ _ (unlike p q (tags_together f cs adds))

-- a table in which neither is so, and each component is one of a lawful type
pub table_is : (f : ℕ → Schema) (cs : List Component) (e : Bool) (adds : List Component) {a b : Bool} → a ≡ (e || is_empty adds) → a ≡ true
    → b ≡ are_distinct tag_same (tags_in cs ++ tags_in adds) → b ≡ true
    → (are_components false (components_of f cs) && are_components true (components_of f adds)) ≡ true
    → is_table (components_of f cs) e (components_of f adds) ≡ true
table_is f cs e adds p q r s t = and_from _ _ (and_from _ _ (alike p q (marked f (components_of f cs) e adds)) (alike r s (tags_together f cs adds))) t

tagged : (ts : List Tag) → is_empty ts ≡ false → are_tags (map tag_of ts) ≡ true
tagged [] e = sym e
tagged (t ∷ ts) e = classes_are (t ∷ ts)

pub component_is : (added : Bool) (ts : List Tag) (o : Presence) (s : Schema) → is_empty ts ≡ false → begins_with (map tag_of ts) s ≡ true → is_in_place added (presence_of o) s ≡ true
    → is_component added (map tag_of ts) (presence_of o) s ≡ true
component_is added ts o s e b p = and_from _ _ (and_from _ _ (tagged ts e) b) p

pub ruleset of_component = (component_is, empty_length)

pub told : {a b : Bool} → a ≡ b → a ≡ true → b ≡ true
told p q = sym p ∙ q

pub distinct_of : {xs ys cs adds : List Component} {b : Bool} → xs ≡ cs → ys ≡ adds → b ≡ are_distinct tag_same (tags_in xs ++ tags_in ys) → b ≡ are_distinct tag_same (tags_in cs ++ tags_in adds)
distinct_of {xs = xs} {ys = ys} {cs = cs} {adds = adds} e h b = b ∙ ap (λ zs. are_distinct tag_same (tags_in zs ++ tags_in ys)) e ∙ ap (λ zs. are_distinct tag_same (tags_in cs ++ tags_in zs)) h

-- ---- the order of a SET

place_before : (ts : List model.Tag) (o : model.Presence) (s : Schema) (cs : Components) (us : List model.Tag) → component_places cs ≡ us →
    component_places (model.component ts o s cs) ≡ least_of ts ++ us
place_before [] o s cs us e = e
place_before (t ∷ ts) o s cs us e = ap (λ vs. smallest t ts ∷ vs) e

-- the smallest tag of each component
pub places_are : (f : ℕ → Schema) (cs : List Component) → component_places (components_of f cs) ≡ places_in cs
places_are f [] = refl
places_are f (c ∷ cs) = place_before (map tag_of c.tags.items) (presence_of c.presence) (f c.place) (components_of f cs) (places_in cs) (places_are f cs)

pub order_lacking : (f : ℕ → Schema) (cs : List Component) {a : Bool} → a ≡ are_ascending tag_less (places_in cs) → a ≡ false → order_lacks TagsOutOfOrder (components_of f cs) ≡ true
order_lacking f cs p q = unlike p q (ap (λ xs. are_ascending tag_less xs) (places_are f cs))

pub set_is : (f : ℕ → Schema) (cs : List Component) (e : Bool) (adds : List Component) {a : Bool} → is_table (components_of f cs) e (components_of f adds) ≡ true
    → a ≡ are_ascending tag_less (places_in cs) → a ≡ true → is_set_table (components_of f cs) e (components_of f adds) ≡ true
set_is f cs e adds t p q = and_from _ _ t (alike p q (ap (λ xs. are_ascending tag_less xs) (places_are f cs)))

-- ---- a group of additions

append_none : {A : Type 0} (xs : List A) → xs ++ [] ≡ xs
append_none [] = refl
append_none (x ∷ xs) = ap (λ ys. x ∷ ys) (append_none xs)

group_tags : (f : ℕ → Schema) (cs : List Component) → are_distinct tag_same (component_tags (components_of f cs)) ≡ are_distinct tag_same (tags_in cs ++ [])
group_tags f cs = ap (λ xs. are_distinct tag_same xs) (tags_are f cs ∙ sym (append_none (tags_in cs)))

pub bare_lacks : (f : ℕ → Schema) (cs : List Component) → is_empty cs ≡ true → group_lacks ComponentMissing (components_of f cs) ≡ true
bare_lacks f cs e = or_left _ _ (none_are f cs ∙ e)

pub group_twice_lacks : (f : ℕ → Schema) (cs : List Component) {a : Bool} → a ≡ are_distinct tag_same (tags_in cs ++ []) → a ≡ false → group_lacks TagTwice (components_of f cs) ≡ true
group_twice_lacks f cs p q = or_left _ _ (unlike p q (group_tags f cs))

pub group_is : (f : ℕ → Schema) (cs : List Component) {a : Bool} → is_empty cs ≡ false → a ≡ are_distinct tag_same (tags_in cs ++ []) → a ≡ true → are_components false (components_of f cs) ≡ true
    → is_group_table (components_of f cs) ≡ true
group_is f cs e p q h = and_from _ _ (and_from _ _ (ap not (none_are f cs ∙ e)) (alike p q (group_tags f cs))) h

-- ---- alternatives

pub among_are : (f : ℕ → Schema) (xs : List Alternative) → alternative_tags (alternatives_of f xs) ≡ tags_among xs
among_are f [] = refl
among_are f (a ∷ xs) = ap (λ ts. tag_of a.tag ∷ ts) (among_are f xs)

pub none_among : (f : ℕ → Schema) (xs : List Alternative) → is_empty (alternative_tags (alternatives_of f xs)) ≡ is_empty xs
none_among f [] = refl
none_among f (a ∷ xs) = refl

pub choice_bare_lacks : (f : ℕ → Schema) (xs : List Alternative) (e : Bool) (ys : List Alternative) → is_empty xs ≡ true →
    choice_lacks AlternativeMissing (alternatives_of f xs) e (alternatives_of f ys) ≡ true
choice_bare_lacks f xs e ys h = or_left _ _ (none_among f xs ∙ h)

pub choice_unmarked_lacks : (f : ℕ → Schema) (xs : List Alternative) (e : Bool) (ys : List Alternative) {a : Bool} → a ≡ (e || is_empty ys) →
    a ≡ false → choice_lacks MarkerMissing (alternatives_of f xs) e (alternatives_of f ys) ≡ true
choice_unmarked_lacks f xs e ys p q = or_left _ _ (unlike p q (ap (λ x. e || x) (none_among f ys)))

pub choice_order_lacks : (f : ℕ → Schema) (xs : List Alternative) (e : Bool) (ys : List Alternative) {a : Bool} →
    a ≡ are_ascending tag_less (tags_among xs) → a ≡ false → choice_lacks TagsOutOfOrder (alternatives_of f xs) e (alternatives_of f ys) ≡ true
choice_order_lacks f xs e ys p q = or_left _ _ (unlike p q (ap (λ ts. are_ascending tag_less ts) (among_are f xs)))

both_among : (f : ℕ → Schema) (xs ys : List Alternative) → are_distinct tag_same
    (alternative_tags (alternatives_of f xs) ++ alternative_tags (alternatives_of f ys)) ≡ are_distinct tag_same (tags_among xs ++ tags_among ys)
both_among f xs ys =
    ap (λ ts. are_distinct tag_same (ts ++ alternative_tags (alternatives_of f ys))) (among_are f xs)
    ∙ ap (λ ts. are_distinct tag_same (tags_among xs ++ ts)) (among_are f ys)

pub choice_twice_lacks : (f : ℕ → Schema) (xs : List Alternative) (e : Bool) (ys : List Alternative) {a : Bool} →
    a ≡ are_distinct tag_same (tags_among xs ++ tags_among ys) → a ≡ false → choice_lacks TagTwice (alternatives_of f xs) e (alternatives_of f ys) ≡ true
choice_twice_lacks f xs e ys p q = or_left _ _ (unlike p q (both_among f xs ys))

pub choice_is : (f : ℕ → Schema) (xs : List Alternative) (e : Bool) (ys : List Alternative) {a b c : Bool} → is_empty xs ≡ false → a ≡ (e || is_empty ys) → a ≡ true
    → b ≡ are_ascending tag_less (tags_among xs) → b ≡ true → c ≡ are_distinct tag_same (tags_among xs ++ tags_among ys) → c ≡ true
    → (are_alternatives (alternatives_of f xs) && are_alternatives (alternatives_of f ys)) ≡ true → is_choice_table (alternatives_of f xs) e (alternatives_of f ys) ≡ true
choice_is f xs e ys h p q r s t u v =
    and_from _ _
    (and_from _ _ (and_from _ _ (and_from _ _ (ap not (none_among f xs ∙ h)) (alike p q (ap (λ x. e || x) (none_among f ys))))
    (alike r s (ap (λ ts. are_ascending tag_less ts) (among_are f xs)))) (alike t u (both_among f xs ys)))
    v

-- ---- what types begin with

pub group_begins : (f : ℕ → Schema) (cs : List Component) (ts : List model.Tag) → pointwise tag_same ts (tags_in cs ++ []) ≡ begins_with ts (group (components_of f cs))
group_begins f cs ts = ap (λ us. pointwise tag_same ts us) (append_none (tags_in cs) ∙ sym (tags_are f cs))

same : (f : ℕ → Schema) (xs ys : List Alternative) → tags_among xs ++ tags_among ys ≡ alternative_tags (alternatives_of f xs) ++ alternative_tags (alternatives_of f ys)
same f xs ys = ap (λ us. us ++ tags_among ys) (sym (among_are f xs)) ∙ ap (λ us. alternative_tags (alternatives_of f xs) ++ us) (sym (among_are f ys))

pub choice_begins : (f : ℕ → Schema) (xs : List Alternative) (e : Bool) (ys : List Alternative) (ts : List Tag)
    → cond (length ts == 1) true (pointwise tag_same (map tag_of ts) (tags_among xs ++ tags_among ys)) ≡ begins_with (map tag_of ts) (choice (alternatives_of f xs) e (alternatives_of f ys))
choice_begins f xs e ys [] =
    ap (λ b. cond b true (pointwise tag_same [] (tags_among xs ++ tags_among ys))) (ne_eqb 0 1 (λ h. omega (arith, h)))
    ∙ ap (λ us. pointwise tag_same [] us) (same f xs ys)
choice_begins f xs e ys (t ∷ []) = ap (λ b. cond b true (pointwise tag_same (tag_of t ∷ []) (tags_among xs ++ tags_among ys))) (eq-eqb (length (t ∷ [])) 1 refl)
choice_begins f xs e ys (t ∷ u ∷ us) =
    ap (λ b. cond b true (pointwise tag_same (map tag_of (t ∷ u ∷ us)) (tags_among xs ++ tags_among ys))) (ne_eqb (length (t ∷ u ∷ us)) 1 (λ h. omega (arith, h)))
    ∙ ap (λ vs. pointwise tag_same (map tag_of (t ∷ u ∷ us)) vs) (same f xs ys)

-- one tag, and no other number of them
one_alone : (b : List model.Tag → Bool) → b [] ≡ false → ((t : model.Tag) → b (t ∷ []) ≡ true) → ((t u : model.Tag) (us : List model.Tag) → b (t ∷ u ∷ us) ≡ false)
    → (ts : List Tag) → (length ts == 1) ≡ b (map tag_of ts)
one_alone b none one more [] = ne_eqb 0 1 (λ h. omega (arith, h)) ∙ sym none
one_alone b none one more (t ∷ []) = eq-eqb (length (t ∷ [])) 1 refl ∙ sym (one (tag_of t))
one_alone b none one more (t ∷ u ∷ us) = ne_eqb (length (t ∷ u ∷ us)) 1 (λ h. omega (arith, h)) ∙ sym (more (tag_of t) (tag_of u) (map tag_of us))

-- a type that is no group and no choice begins with one tag
pub one_tag : (ns : List TypeNode) (x : TypeNode) (ts : List Tag) → is_plain x ≡ true → (length ts == 1) ≡ begins_with (map tag_of ts) (type_of ns 1 (Some x))
one_tag ns node.Boolean ts p = one_alone (λ us. begins_with us (type_of ns 1 (Some node.Boolean))) refl (λ t. refl) (λ t u us. refl) ts
one_tag ns node.Null ts p = one_alone (λ us. begins_with us (type_of ns 1 (Some node.Null))) refl (λ t. refl) (λ t u us. refl) ts
one_tag ns (node.Integer l) ts p = one_alone (λ us. begins_with us (type_of ns 1 (Some (node.Integer l)))) refl (λ t. refl) (λ t u us. refl) ts
one_tag ns (node.Enumerated l) ts p = one_alone (λ us. begins_with us (type_of ns 1 (Some (node.Enumerated l)))) refl (λ t. refl) (λ t u us. refl) ts
one_tag ns (node.BitString l) ts p = one_alone (λ us. begins_with us (type_of ns 1 (Some (node.BitString l)))) refl (λ t. refl) (λ t u us. refl) ts
one_tag ns (node.OctetString l) ts p = one_alone (λ us. begins_with us (type_of ns 1 (Some (node.OctetString l)))) refl (λ t. refl) (λ t u us. refl) ts
one_tag ns (node.CharacterString l) ts p = one_alone (λ us. begins_with us (type_of ns 1 (Some (node.CharacterString l)))) refl (λ t. refl) (λ t u us. refl) ts
one_tag ns node.ObjectIdentifier ts p = one_alone (λ us. begins_with us (type_of ns 1 (Some node.ObjectIdentifier))) refl (λ t. refl) (λ t u us. refl) ts
one_tag ns (node.SequenceOf z i) ts p = one_alone (λ us. begins_with us (type_of ns 1 (Some (node.SequenceOf z i)))) refl (λ t. refl) (λ t u us. refl) ts
one_tag ns (node.SetOf z i) ts p = one_alone (λ us. begins_with us (type_of ns 1 (Some (node.SetOf z i)))) refl (λ t. refl) (λ t u us. refl) ts
one_tag ns (node.Sequence l) ts p = one_alone (λ us. begins_with us (type_of ns 1 (Some (node.Sequence l)))) refl (λ t. refl) (λ t u us. refl) ts
one_tag ns (node.Set l) ts p = one_alone (λ us. begins_with us (type_of ns 1 (Some (node.Set l)))) refl (λ t. refl) (λ t u us. refl) ts
one_tag ns (node.Group l) ts p = let z : false ≡ true = p in cc
one_tag ns (node.Choice l) ts p = let z : false ≡ true = p in cc

pub told_false : {a b : Bool} → a ≡ b → a ≡ false → b ≡ false
told_false p q = sym p ∙ q

pub along : {A : Type 0} (F : A → Bool) {x y : A} {b : Bool} → x ≡ y → b ≡ F x → b ≡ F y
along F e h = h ∙ ap F e
