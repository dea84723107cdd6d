-- A type that lacks something is not lawful.
use Rattle.std.proofs.Common.{◌≡◌, ◌∙◌, refl, sym, ap, ℕ, ℤ, int_lt, ◌<◌, length, get_or, Some, slice_get, Bool, true, false, not, ◌&&◌, ◌||◌, List, ◌++◌}
use Rattle.std.proofs.lemmas.Bool.{and_parts, and_from, both_ways, or_left, or_right}
use Rattle.asn1_model.specs.Value.{same_number}
use Rattle.asn1_model.specs.Schema.{Tag, Range, Counts, Alternatives, no_alternative, alternative, Schema, cut, boolean}
use Rattle.asn1_model.specs.Schema.{null, integer, enumerated, bit_string, octet_string, character_string}
use Rattle.asn1_model.specs.Schema.{object_identifier, sequence_of, set_of, sequence, set, group, choice, Components}
use Rattle.asn1_model.specs.Schema.{no_component, component}
use Rattle.asn1_model.specs.Schema as model
use Rattle.asn1_model.specs.Lawful.{is_lawful, are_lawful, is_range, are_counts, is_group, is_empty, is_tag, are_tags}
use Rattle.asn1_model.specs.Lawful.{are_tags_of, begins_with, has_typed_default, are_groups_in_place, is_sequence_table}
use Rattle.asn1_model.specs.Lawful.{are_no_components, are_distinct, tag_same, component_tags, are_ascending, tag_less}
use Rattle.asn1_model.specs.Lawful.{component_places, alternative_tags, are_lawful_alternatives}
use Rattle.std.specs.List.{list_all}
use Rattle.std.proofs.lemmas.Option.{slice_get_within, slice_get_read}
use Rattle.asn1_table_nodes.specs.declared.nodes.TypeNode.{TypeNode}
use Rattle.asn1_table_nodes.specs.Meaning.{type_of, type_at}
use Rattle.asn1_table_types.specs.declared.faults.Refusal.{Refusal}
use Rattle.asn1_table_types.specs.declared.faults.Refusal.TheVariants.{Flawed, NoMemory}
use Rattle.asn1_table_types.specs.Tables.{IsUnlawful, IsRefused, IsDueAt, error_of}
use Rattle.asn1_table_types.specs.declared.faults.Flaw.{Flaw}
use Rattle.asn1_table_types.specs.declared.faults.Flaw.TheVariants.{BoundsOutOfOrder, SizesOutOfOrder, MarkerMissing}
use Rattle.asn1_table_types.specs.declared.faults.Flaw.TheVariants.{TagTwice, TagMissing, TagsOfOtherType}
use Rattle.asn1_table_types.specs.declared.faults.Flaw.TheVariants.{GroupOutOfPlace, ItemMissing, ItemsOutOfOrder}
use Rattle.asn1_table_types.specs.declared.faults.Flaw.TheVariants.{ItemTwice, ComponentMissing, AlternativeMissing}
use Rattle.asn1_table_types.specs.declared.faults.Flaw.TheVariants.{TagsOutOfOrder, DefaultOfOtherType}
use Rattle.asn1_table_types.specs.Flaws.{is_in_place, component_lacks, some_lacks, together_lack, table_lacks}
use Rattle.asn1_table_types.specs.Flaws.{bounds_lack, sizes_lack, members_lack, items_lack, order_lacks}
use Rattle.asn1_table_types.specs.Flaws.{group_itself_lacks, choice_tags_lack, alternatives_lack, are_items}
use Rattle.asn1_table_types.specs.Flaws.{are_alternatives, lacks}
use Rattle.asn1_table_nodes.specs.Defaults.{have_defaults, has_defaults}

not_false : (b : Bool) → b ≡ true → not b ≡ false
not_false b e = ap not e

negated : (b : Bool) → not b ≡ true → b ≡ false
negated true e = sym e
negated false e = refl

neither : (a b : Bool) → a ≡ false → b ≡ false → (a || b) ≡ false
neither a b e h = ap (λ x. x || b) e ∙ h

bounds_meet : (f : Flaw) (r : Range) → is_range r ≡ true → bounds_lack f r ≡ false
bounds_meet BoundsOutOfOrder r e = not_false _ e
bounds_meet f r e = refl

sizes_meet : (f : Flaw) (c : Counts) → are_counts c ≡ true → sizes_lack f c ≡ false
sizes_meet SizesOutOfOrder c e = not_false _ e
sizes_meet f c e = refl

members_meet : (f : Flaw) (s : Schema) → not (is_group s) ≡ true → members_lack f s ≡ false
members_meet GroupOutOfPlace s e = negated _ e
members_meet f s e = refl

component_meets : (f : Flaw) (added : Bool) (ts : List Tag) (o : model.Presence) (s : Schema) → are_tags_of ts s ≡ true →
    has_typed_default s o ≡ true → is_in_place added o s ≡ true → component_lacks f added ts o s ≡ false
component_meets TagMissing added ts o s e d p = negated _ (and_parts (not (is_empty ts)) (list_all is_tag ts) (and_parts (are_tags ts) (begins_with ts s) e).0).0
component_meets TagsOfOtherType added ts o s e d p = not_false _ (and_parts (are_tags ts) (begins_with ts s) e).1
component_meets GroupOutOfPlace added ts o s e d p = not_false _ p
component_meets DefaultOfOtherType added ts o s e d p = not_false _ d
component_meets f added ts o s e d p = refl

some_meet : (f : Flaw) (added : Bool) (cs : Components) → are_lawful cs ≡ true → are_groups_in_place added cs ≡ true → some_lacks f added cs ≡ false
unfolding are_lawful
some_meet f added no_component e p = refl
some_meet f added (component ts o s cs) e p =
    let a = and_parts (are_tags_of ts s && has_typed_default s o && is_lawful s) (are_lawful cs) e in
    let b = and_parts (are_tags_of ts s && has_typed_default s o) (is_lawful s) a.0 in
    let c = and_parts (are_tags_of ts s) (has_typed_default s o) b.0 in
    let q = and_parts (is_in_place added o s) (are_groups_in_place added cs) p in
    neither _ _ (component_meets f added ts o s c.0 c.1 q.0) (some_meet f added cs a.1 q.1)

together_meet : (f : Flaw) (cs : Components) (e : Bool) (adds : Components) → (e || are_no_components adds) ≡ true →
    are_distinct tag_same (component_tags cs ++ component_tags adds) ≡ true → together_lack f cs e adds ≡ false
together_meet MarkerMissing cs e adds h k = not_false _ h
together_meet TagTwice cs e adds h k = not_false _ k
together_meet f cs e adds h k = refl

table_meets : (f : Flaw) (cs : Components) (e : Bool) (adds : Components) → is_sequence_table cs e adds ≡ true → are_lawful cs ≡ true → are_lawful adds ≡ true → table_lacks f cs e adds ≡ false
table_meets f cs e adds h k l =
    let a = and_parts ((e || are_no_components adds) && are_distinct tag_same (component_tags cs ++ component_tags adds) && are_groups_in_place false cs) (are_groups_in_place true adds) h in
    let b = and_parts ((e || are_no_components adds) && are_distinct tag_same (component_tags cs ++ component_tags adds)) (are_groups_in_place false cs) a.0 in
    let c = and_parts (e || are_no_components adds) (are_distinct tag_same (component_tags cs ++ component_tags adds)) b.0 in
    neither _ _ (together_meet f cs e adds c.0 c.1) (neither _ _ (some_meet f false cs k b.1) (some_meet f true adds l a.1))

items_meet : (f : Flaw) (roots : List ℤ) (e : Bool) (adds : List ℤ) → are_items roots e adds ≡ true → items_lack f roots e adds ≡ false
items_meet f roots e adds h =
    let a = and_parts (not (is_empty roots) && (e || is_empty adds) && are_ascending int_lt roots && are_ascending int_lt adds) (are_distinct same_number (roots ++ adds)) h in
    let b = and_parts (not (is_empty roots) && (e || is_empty adds) && are_ascending int_lt roots) (are_ascending int_lt adds) a.0 in
    let c = and_parts (not (is_empty roots) && (e || is_empty adds)) (are_ascending int_lt roots) b.0 in
    let d = and_parts (not (is_empty roots)) (e || is_empty adds) c.0 in
    go f d.0 d.1 c.1 b.1 a.1
  where
    go : (f : Flaw) → not (is_empty roots) ≡ true → (e || is_empty adds) ≡ true → are_ascending int_lt roots ≡ true →
        are_ascending int_lt adds ≡ true → are_distinct same_number (roots ++ adds) ≡ true → items_lack f roots e adds ≡ false
    go ItemMissing a b c d k = negated _ a
    go MarkerMissing a b c d k = not_false _ b
    go ItemsOutOfOrder a b c d k = neither _ _ (not_false _ c) (not_false _ d)
    go ItemTwice a b c d k = not_false _ k
    go f a b c d k = refl

order_meets : (f : Flaw) (cs : Components) → are_ascending tag_less (component_places cs) ≡ true → order_lacks f cs ≡ false
order_meets TagsOutOfOrder cs e = not_false _ e
order_meets f cs e = refl

group_itself_meets : (f : Flaw) (cs : Components) → not (are_no_components cs) ≡ true → are_distinct tag_same (component_tags cs) ≡ true → group_itself_lacks f cs ≡ false
group_itself_meets ComponentMissing cs e h = negated _ e
group_itself_meets TagTwice cs e h = not_false _ h
group_itself_meets f cs e h = refl

choice_tags_meet : (f : Flaw) (roots : List Tag) (e : Bool) (adds : List Tag) → not (is_empty roots) ≡ true → (e || is_empty adds) ≡ true →
    are_ascending tag_less roots ≡ true → are_distinct tag_same (roots ++ adds) ≡ true → choice_tags_lack f roots e adds ≡ false
choice_tags_meet AlternativeMissing roots e adds a b c d = negated _ a
choice_tags_meet MarkerMissing roots e adds a b c d = not_false _ b
choice_tags_meet TagsOutOfOrder roots e adds a b c d = not_false _ c
choice_tags_meet TagTwice roots e adds a b c d = not_false _ d
choice_tags_meet f roots e adds a b c d = refl

alternatives_are : (others : Alternatives) → are_lawful_alternatives others ≡ true → are_alternatives others ≡ true
unfolding are_lawful_alternatives
alternatives_are no_alternative e = refl
alternatives_are (alternative t s others) e =
    let a = and_parts (is_tag t && not (is_group s) && is_lawful s) (are_lawful_alternatives others) e in
    let b = and_parts (is_tag t && not (is_group s)) (is_lawful s) a.0 in
    and_from _ _ (and_parts (is_tag t) (not (is_group s)) b.0).1 (alternatives_are others a.1)

alternatives_meet : (f : Flaw) (others : Alternatives) → are_lawful_alternatives others ≡ true → alternatives_lack f others ≡ false
alternatives_meet GroupOutOfPlace others e = not_false _ (alternatives_are others e)
alternatives_meet f others e = refl

-- A lawful type lacks nothing.
meets : (s : Schema) (f : Flaw) → is_lawful s ≡ true → lacks s f ≡ false
unfolding is_lawful
meets (integer b held) f e = bounds_meet f b.range (and_parts (is_range b.range) (is_range held) e).0
meets (enumerated roots e adds) f h = items_meet f roots e adds h
meets (bit_string z held) f e = sizes_meet f z.counts (and_parts (are_counts z.counts) (are_counts held) e).0
meets (octet_string z held) f e = sizes_meet f z.counts (and_parts (are_counts z.counts) (are_counts held) e).0
meets (character_string k z a held) f e = sizes_meet f z.counts (and_parts (are_counts z.counts) (are_counts held) e).0
meets (sequence_of z held s) f e =
    let a = and_parts (are_counts z.counts && are_counts held && not (is_group s)) (is_lawful s) e in
    let b = and_parts (are_counts z.counts && are_counts held) (not (is_group s)) a.0 in
    let c = and_parts (are_counts z.counts) (are_counts held) b.0 in
    neither _ _ (sizes_meet f z.counts c.0) (members_meet f s b.1)
meets (set_of z held s) f e =
    let a = and_parts (are_counts z.counts && are_counts held && not (is_group s)) (is_lawful s) e in
    let b = and_parts (are_counts z.counts && are_counts held) (not (is_group s)) a.0 in
    let c = and_parts (are_counts z.counts) (are_counts held) b.0 in
    neither _ _ (sizes_meet f z.counts c.0) (members_meet f s b.1)
meets (sequence cs e adds) f h =
    let a = and_parts (is_sequence_table cs e adds && are_lawful cs) (are_lawful adds) h in
    let b = and_parts (is_sequence_table cs e adds) (are_lawful cs) a.0 in
    table_meets f cs e adds b.0 b.1 a.1
meets (set cs e adds) f h =
    let a = and_parts (is_sequence_table cs e adds && are_ascending tag_less (component_places cs) && are_lawful cs) (are_lawful adds) h in
    let b = and_parts (is_sequence_table cs e adds && are_ascending tag_less (component_places cs)) (are_lawful cs) a.0 in
    let c = and_parts (is_sequence_table cs e adds) (are_ascending tag_less (component_places cs)) b.0 in
    neither _ _ (table_meets f cs e adds c.0 b.1 a.1) (order_meets f cs c.1)
meets (group cs) f h =
    let a = and_parts (not (are_no_components cs) && are_distinct tag_same (component_tags cs) && are_groups_in_place false cs) (are_lawful cs) h in
    let b = and_parts (not (are_no_components cs) && are_distinct tag_same (component_tags cs)) (are_groups_in_place false cs) a.0 in
    let c = and_parts (not (are_no_components cs)) (are_distinct tag_same (component_tags cs)) b.0 in
    neither _ _ (group_itself_meets f cs c.0 c.1) (some_meet f false cs a.1 b.1)
meets (choice roots e adds) f h =
    let ts = alternative_tags roots in
    let us = alternative_tags adds in
    let a = and_parts (not (is_empty ts) && (e || is_empty us) && are_ascending tag_less ts && are_distinct tag_same (ts ++ us) && are_lawful_alternatives roots) (are_lawful_alternatives adds) h in
    let b = and_parts (not (is_empty ts) && (e || is_empty us) && are_ascending tag_less ts && are_distinct tag_same (ts ++ us)) (are_lawful_alternatives roots) a.0 in
    let c = and_parts (not (is_empty ts) && (e || is_empty us) && are_ascending tag_less ts) (are_distinct tag_same (ts ++ us)) b.0 in
    let d = and_parts (not (is_empty ts) && (e || is_empty us)) (are_ascending tag_less ts) c.0 in
    let k = and_parts (not (is_empty ts)) (e || is_empty us) d.0 in
    neither _ _ (choice_tags_meet f ts e us k.0 k.1 d.1 c.1) (neither _ _ (alternatives_meet f roots b.1) (alternatives_meet f adds a.1))
meets s f e = refl

pub unlawful : (s : Schema) (f : Flaw) → lacks s f ≡ true → is_lawful s ≡ false
unlawful s f e = go (is_lawful s) refl where
  go : (b : Bool) → is_lawful s ≡ b → b ≡ false
  go false h = refl
  go true h = absurd (both_ways (lacks s f) (meets s f h) e)

-- What is wrong with components is wrong with their table.
pub each_lacks : (f : Flaw) (cs : Components) (e : Bool) (adds : Components) → (some_lacks f false cs || some_lacks f true adds) ≡ true → table_lacks f cs e adds ≡ true
each_lacks f cs e adds h = or_right _ _ h

-- What a node lacks, the type at its index lacks.
pub refused_at : (ns : List TypeNode) (n i : ℕ) (f : Flaw) (x : TypeNode) → slice_get ns i ≡ Some x → lacks (type_of ns n (Some x)) f ≡ true → IsUnlawful ns i f
refused_at ns n i f x e h =
    let l : lacks (type_at ns n i) f ≡ true = ap (λ o. lacks (type_of ns n o) f) e ∙ h in
    record { levels = n; there = slice_get_within ns i x e; lacking = l; unlawful = unlawful (type_at ns n i) f l }

-- The same of a node that was looked up.
pub refused_found : (ns : List TypeNode) (n i : ℕ) (f : Flaw) (x : TypeNode) → i < length ns → ((d : TypeNode) → x ≡ get_or ns i d) → lacks (type_of ns n (Some x)) f ≡ true → IsUnlawful ns i f
refused_found ns n i f x h e l = refused_at ns n i f x (slice_get_read ns (length ns) i x refl h (e x)) l

-- So a refusal of a node is one of its table.
pub refused_whole : (ns : List TypeNode) (i : ℕ) (x : TypeNode) (r : Refusal) → i < length ns → ((d : TypeNode) → x ≡ get_or ns i d) →
    IsDueAt (λ n. lacks (type_of ns n (Some x))) r → IsRefused ns (error_of i r)
refused_whole ns i x (Flawed f) h e d = refused_found ns d.levels i f x h e d.told
refused_whole ns i x NoMemory h e d = tt

-- A default that is no value of its component's type is what its node lacks.
first_or : (a b c : Bool) → (a && b) ≡ false → (b ≡ false → c ≡ true) → (not a || c) ≡ true
first_or false b c e k = refl
first_or true b c e k = k e

one_or : (a b c d : Bool) → (a && b) ≡ false → (a ≡ false → c ≡ true) → (b ≡ false → d ≡ true) → (c || d) ≡ true
one_or false b c d e k l = or_left c d (k refl)
one_or true b c d e k l = or_right c d (l e)

untyped_lacks : (added : Bool) (cs : Components) → have_defaults cs ≡ false → some_lacks DefaultOfOtherType added cs ≡ true
untyped_lacks added no_component e = sym e
untyped_lacks added (component ts o s cs) e = first_or (has_typed_default s o) (have_defaults cs) (some_lacks DefaultOfOtherType added cs) e (untyped_lacks added cs)

both_lack : (cs : Components) (x : Bool) (adds : Components) → (have_defaults cs && have_defaults adds) ≡ false → table_lacks DefaultOfOtherType cs x adds ≡ true
both_lack cs x adds e = one_or (have_defaults cs) (have_defaults adds) _ _ e (untyped_lacks false cs) (untyped_lacks true adds)

pub defaults_lack : (s : Schema) → has_defaults s ≡ false → lacks s DefaultOfOtherType ≡ true
defaults_lack (sequence cs x adds) e = both_lack cs x adds e
defaults_lack (set cs x adds) e = or_left _ _ (both_lack cs x adds e)
defaults_lack (group cs) e = untyped_lacks false cs e
defaults_lack s e = sym e
