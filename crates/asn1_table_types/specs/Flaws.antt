-- What a type itself must meet to be lawful, apart from its parts, and what it lacks where it does not.
use Rattle.std.specs.Prelude.{ℤ, int_lt, Bool, true, false, cond, not, ◌&&◌, ◌||◌, List, ◌++◌}
use Rattle.asn1_model.specs.Value.{same_number}
use Rattle.asn1_model.specs.Schema.{Tag, Range, Counts, Presence, Schema, integer, enumerated, bit_string, octet_string}
use Rattle.asn1_model.specs.Schema.{character_string, sequence_of, set_of, sequence, set, group, choice, Components}
use Rattle.asn1_model.specs.Schema.{no_component, component, Alternatives, no_alternative, alternative}
use Rattle.asn1_model.specs.Lawful.{is_empty, are_no_components, are_distinct, tag_same, component_tags, is_range}
use Rattle.asn1_model.specs.Lawful.{are_counts, is_group, is_optional}
use Rattle.asn1_model.specs.Lawful.{begins_with, are_tags_of, has_typed_default}
use Rattle.asn1_model.specs.Lawful.{are_ascending, tag_less, component_places, alternative_tags}
use Rattle.asn1_table_types.specs.declared.faults.Flaw.{Flaw}
use Rattle.asn1_table_types.specs.declared.faults.Flaw.TheVariants.{BoundsOutOfOrder, SizesOutOfOrder, MarkerMissing}
use Rattle.asn1_table_types.specs.declared.faults.Flaw.TheVariants.{TagTwice, TagMissing, TagsOfOtherType}
use Rattle.asn1_table_types.specs.declared.faults.Flaw.TheVariants.{GroupOutOfPlace, ItemMissing, ItemsOutOfOrder}
use Rattle.asn1_table_types.specs.declared.faults.Flaw.TheVariants.{ItemTwice, ComponentMissing, AlternativeMissing}
use Rattle.asn1_table_types.specs.declared.faults.Flaw.TheVariants.{TagsOutOfOrder, DefaultOfOtherType}

-- A group occurs only among additions, and there as optional (X.680 25).
abbrev pub is_in_place : Bool → Presence → Schema → Bool
is_in_place added o s = cond added (not (is_group s) || is_optional o) (not (is_group s))

-- A component among root components, or among additions (true), has tags with which its type may begin, and is no group
-- where none may be (X.680 25).
abbrev pub is_component : Bool → List Tag → Presence → Schema → Bool
is_component added ts o s = are_tags_of ts s && is_in_place added o s

abbrev pub are_components : Bool → Components → Bool
are_components added no_component = true
are_components added (component ts o s cs) = is_component added ts o s && are_components added cs

-- The components of a SEQUENCE or SET together: additions come after an extension marker, and all tags differ (X.680
-- 25 and 27).
abbrev pub are_together : Components → Bool → Components → Bool
are_together cs e adds =
    (e || are_no_components adds) && are_distinct tag_same (component_tags cs ++ component_tags adds)

abbrev pub is_table : Components → Bool → Components → Bool
is_table cs e adds = are_together cs e adds && (are_components false cs && are_components true adds)

-- The items of an ENUMERATED (X.680 20), listed by ascending number (X.691 14.1).
abbrev pub are_items : List ℤ → Bool → List ℤ → Bool
are_items roots e adds =
    not (is_empty roots) && (e || is_empty adds) && are_ascending int_lt roots && are_ascending int_lt adds
    && are_distinct same_number (roots ++ adds)

-- The root components of a SET are in the order of their tags (X.680 8.6, X.691 21).
abbrev pub is_set_table : Components → Bool → Components → Bool
is_set_table cs e adds = is_table cs e adds && are_ascending tag_less (component_places cs)

-- The components of a group of additions (X.680 25).
abbrev pub is_group_table : Components → Bool
is_group_table cs = not (are_no_components cs) && are_distinct tag_same (component_tags cs) && are_components false cs

-- No alternative is a group of additions.
abbrev pub are_alternatives : Alternatives → Bool
are_alternatives no_alternative = true
are_alternatives (alternative t s others) = not (is_group s) && are_alternatives others

-- The tags of a CHOICE (X.680 29).
abbrev pub are_choice_tags : List Tag → Bool → List Tag → Bool
are_choice_tags roots e adds =
    not (is_empty roots) && (e || is_empty adds) && are_ascending tag_less roots
    && are_distinct tag_same (roots ++ adds)

abbrev pub is_choice_table : Alternatives → Bool → Alternatives → Bool
is_choice_table roots e adds =
    are_choice_tags (alternative_tags roots) e (alternative_tags adds)
    && (are_alternatives roots && are_alternatives adds)

-- A type meets what is asked of it, apart from its parts' types and from defaults (X.680 19 to 29).
abbrev pub is_sound : Schema → Bool
is_sound (integer b held) = is_range b.range
is_sound (enumerated roots e adds) = are_items roots e adds
is_sound (bit_string z held) = are_counts z.counts
is_sound (octet_string z held) = are_counts z.counts
is_sound (character_string k z a held) = are_counts z.counts
is_sound (sequence_of z held s) = are_counts z.counts && not (is_group s)
is_sound (set_of z held s) = are_counts z.counts && not (is_group s)
is_sound (sequence cs e adds) = is_table cs e adds
is_sound (set cs e adds) = is_set_table cs e adds
is_sound (group cs) = is_group_table cs
is_sound (choice roots e adds) = is_choice_table roots e adds
is_sound s = true

-- What is wrong with a component among root components, or among additions (true).
abbrev pub component_lacks : Flaw → Bool → List Tag → Presence → Schema → Bool
component_lacks TagMissing added ts o s = is_empty ts
component_lacks TagsOfOtherType added ts o s = not (begins_with ts s)
component_lacks GroupOutOfPlace added ts o s = not (is_in_place added o s)
component_lacks DefaultOfOtherType added ts o s = not (has_typed_default s o)
component_lacks f added ts o s = false

-- It is wrong with one of some components.
abbrev pub some_lacks : Flaw → Bool → Components → Bool
some_lacks f added no_component = false
some_lacks f added (component ts o s cs) = component_lacks f added ts o s || some_lacks f added cs

-- What is wrong with the components of a SEQUENCE or SET together (X.680 25 and 27).
abbrev pub together_lack : Flaw → Components → Bool → Components → Bool
together_lack MarkerMissing cs e adds = not (e || are_no_components adds)
together_lack TagTwice cs e adds = not (are_distinct tag_same (component_tags cs ++ component_tags adds))
together_lack f cs e adds = false

-- What is wrong with the components of a SEQUENCE or SET.
abbrev pub table_lacks : Flaw → Components → Bool → Components → Bool
table_lacks f cs e adds = together_lack f cs e adds || (some_lacks f false cs || some_lacks f true adds)

-- What is wrong with bounds, sizes and the type of a list's members.
abbrev pub bounds_lack : Flaw → Range → Bool
bounds_lack BoundsOutOfOrder r = not (is_range r)
bounds_lack f r = false

abbrev pub sizes_lack : Flaw → Counts → Bool
sizes_lack SizesOutOfOrder c = not (are_counts c)
sizes_lack f c = false

abbrev pub members_lack : Flaw → Schema → Bool
members_lack GroupOutOfPlace s = is_group s
members_lack f s = false

-- What is wrong with the items of an ENUMERATED (X.680 20).
abbrev pub items_lack : Flaw → List ℤ → Bool → List ℤ → Bool
items_lack ItemMissing roots e adds = is_empty roots
items_lack MarkerMissing roots e adds = not (e || is_empty adds)
items_lack ItemsOutOfOrder roots e adds = not (are_ascending int_lt roots) || not (are_ascending int_lt adds)
items_lack ItemTwice roots e adds = not (are_distinct same_number (roots ++ adds))
items_lack f roots e adds = false

-- What is wrong with the order of the root components of a SET.
abbrev pub order_lacks : Flaw → Components → Bool
order_lacks TagsOutOfOrder cs = not (are_ascending tag_less (component_places cs))
order_lacks f cs = false

-- What is wrong with the components of a SET (X.680 27).
abbrev pub set_lacks : Flaw → Components → Bool → Components → Bool
set_lacks f cs e adds = table_lacks f cs e adds || order_lacks f cs

-- What is wrong with a group of additions (X.680 25).
abbrev pub group_itself_lacks : Flaw → Components → Bool
group_itself_lacks ComponentMissing cs = are_no_components cs
group_itself_lacks TagTwice cs = not (are_distinct tag_same (component_tags cs))
group_itself_lacks f cs = false

abbrev pub group_lacks : Flaw → Components → Bool
group_lacks f cs = group_itself_lacks f cs || some_lacks f false cs

-- What is wrong with the tags of a CHOICE (X.680 29).
abbrev pub choice_tags_lack : Flaw → List Tag → Bool → List Tag → Bool
choice_tags_lack AlternativeMissing roots e adds = is_empty roots
choice_tags_lack MarkerMissing roots e adds = not (e || is_empty adds)
choice_tags_lack TagsOutOfOrder roots e adds = not (are_ascending tag_less roots)
choice_tags_lack TagTwice roots e adds = not (are_distinct tag_same (roots ++ adds))
choice_tags_lack f roots e adds = false

-- One of some alternatives is a group of additions.
abbrev pub alternatives_lack : Flaw → Alternatives → Bool
alternatives_lack GroupOutOfPlace others = not (are_alternatives others)
alternatives_lack f others = false

abbrev pub choice_lacks : Flaw → Alternatives → Bool → Alternatives → Bool
choice_lacks f roots e adds =
    choice_tags_lack f (alternative_tags roots) e (alternative_tags adds)
    || (alternatives_lack f roots || alternatives_lack f adds)

-- What is wrong with a type, apart from its parts' types.
abbrev pub lacks : Schema → Flaw → Bool
lacks (integer b held) f = bounds_lack f b.range
lacks (enumerated roots e adds) f = items_lack f roots e adds
lacks (bit_string z held) f = sizes_lack f z.counts
lacks (octet_string z held) f = sizes_lack f z.counts
lacks (character_string k z a held) f = sizes_lack f z.counts
lacks (sequence_of z held s) f = sizes_lack f z.counts || members_lack f s
lacks (set_of z held s) f = sizes_lack f z.counts || members_lack f s
lacks (sequence cs e adds) f = table_lacks f cs e adds
lacks (set cs e adds) f = set_lacks f cs e adds
lacks (group cs) f = group_lacks f cs
lacks (choice roots e adds) f = choice_lacks f roots e adds
lacks s f = false
