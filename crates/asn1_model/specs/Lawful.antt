-- Which values belong to a type: they have its kind, the components, alternatives and items of its tables, and satisfy
-- the constraints that count in all rules; what is below the cut of a recursive type is not checked. And which types
-- are well-formed (lawful): tables ascend, tags and items are distinct, bounds are ordered, additions come after an
-- extension marker, and defaults are values of their types.
use Rattle.std.specs.Prelude.{ℕ, zero, suc, ◌==◌, ltb, leb, int_lt, Bool, true, false, cond, not, ◌&&◌, ◌||◌, IsTrue}
use Rattle.std.specs.Prelude.{List, [], ◌∷◌, ◌++◌, length, is_some}
use Rattle.std.specs.List.{list_all}
use Rattle.std.specs.Option.{option_map_or}
use lib.Pointwise.{pointwise}
use Rattle.asn1_model.specs.Value.{Value, truth, nothing, number, item, bit_list, octet_list, text, arcs, members, bag}
use Rattle.asn1_model.specs.Value.{fields, chosen, Values, no_more, member, Parts, end, absent, present, same_number}
use Rattle.asn1_model.specs.Value.{are_all}
use Rattle.asn1_model.specs.Schema.{Tag, Range, Counts, Presence, optional, by_default, Schema, cut, boolean, null}
use Rattle.asn1_model.specs.Schema.{integer, enumerated, bit_string, octet_string, character_string, object_identifier}
use Rattle.asn1_model.specs.Schema.{sequence_of, set_of, sequence, set, group, choice, Components, no_component}
use Rattle.asn1_model.specs.Schema.{component, Alternatives, no_alternative, alternative}
use Rattle.asn1_model.specs.Numbers.{is_at_most, is_within, is_count_within, admits}
use Rattle.asn1_model.specs.Strings.{is_octet, may_hold, is_of_octets, is_identifier}
use Rattle.asn1_model.specs.Normal.{item_index, is_required}

abbrev pub member_count : Values → ℕ
member_count no_more = 0
member_count (member v vs) = suc (member_count vs)

unfoldable mutual
  -- Whether a value belongs to a type (X.680 17 to 32 and 51).
  pub is_of : Schema → Value → Bool
  is_of boolean (truth b) = true
  is_of null nothing = true
  is_of (integer b held) (number v) = is_within held v && (b.extensible || is_within b.range v)
  is_of (enumerated roots e adds) (item v) = is_some (item_index v roots) || (e && is_some (item_index v adds))
  is_of (bit_string z held) (bit_list bs) = admits z held (length bs)
  is_of (octet_string z held) (octet_list os) = list_all is_octet os && admits z held (length os)
  is_of (character_string k z a held) (text cs) =
      may_hold k cs && is_count_within held (length cs) && (is_of_octets k || admits z held (length cs))
  is_of object_identifier (arcs ns) = is_identifier ns
  is_of (sequence_of z held s) (members vs) = is_count_within held (member_count vs) && are_all (λ v. is_of s v) vs
  is_of (set_of z held s) (bag vs) = is_count_within held (member_count vs) && are_all (λ v. is_of s v) vs
  is_of (sequence cs e adds) (fields ps qs) = are_of cs ps && are_of adds qs
  is_of (set cs e adds) (fields ps qs) = are_of cs ps && are_of adds qs
  is_of (group cs) (fields ps end) = are_of cs ps
  is_of (choice roots e adds) (chosen false i v) = is_of_alternative roots i v
  is_of (choice roots e adds) (chosen true i v) = e && is_of_alternative adds i v
  is_of cut v = true
  is_of s v = false

  -- Whether parts belong to components: each has its type, and the mandatory ones are present (X.680 25).
  pub are_of : Components → Parts → Bool
  are_of no_component end = true
  are_of (component t o s cs) (present v ps) = is_of s v && are_of cs ps
  are_of (component t o s cs) (absent ps) = not (is_required o) && are_of cs ps
  are_of cs ps = false

  -- Whether a value belongs to the alternative with a choice index (X.680 29).
  pub is_of_alternative : Alternatives → ℕ → Value → Bool
  is_of_alternative (alternative t s others) zero v = is_of s v
  is_of_alternative (alternative t s others) (suc i) v = is_of_alternative others i v
  is_of_alternative no_alternative i v = false

-- The order of tags: by class, and then by number (X.680 8.6).
abbrev pub tag_less : Tag → Tag → Bool
tag_less t u = ltb t.class u.class || ((t.class == u.class) && ltb t.number u.number)

abbrev pub tag_same : Tag → Tag → Bool
tag_same t u = (t.class == u.class) && (t.number == u.number)

-- The class of a tag is one of four (X.680 8.1).
abbrev pub is_tag : Tag → Bool
is_tag t = leb t.class 3

-- The smallest of some tags. It orders an untagged CHOICE, whose added alternatives count, by this project's choice.
abbrev pub smallest : Tag → List Tag → Tag
smallest t [] = t
smallest t (u ∷ us) = cond (tag_less u t) (smallest u us) (smallest t us)

abbrev pub are_distinct : {X : Type 0} → (X → X → Bool) → List X → Bool
are_distinct e [] = true
are_distinct e (x ∷ xs) = list_all (λ y. not (e x y)) xs && are_distinct e xs

-- Each element is less than the next.
abbrev pub are_ascending : {X : Type 0} → (X → X → Bool) → List X → Bool
are_ascending less [] = true
are_ascending less (x ∷ []) = true
are_ascending less (x ∷ y ∷ xs) = less x y && are_ascending less (y ∷ xs)

abbrev pub component_tags : Components → List Tag
component_tags no_component = []
component_tags (component ts o s cs) = ts ++ component_tags cs

-- The smallest tag of each component.
abbrev pub component_places : Components → List Tag
component_places no_component = []
component_places (component [] o s cs) = component_places cs
component_places (component (t ∷ ts) o s cs) = smallest t ts ∷ component_places cs

abbrev pub alternative_tags : Alternatives → List Tag
alternative_tags no_alternative = []
alternative_tags (alternative t s others) = t ∷ alternative_tags others

abbrev pub is_empty : {X : Type 0} → List X → Bool
is_empty [] = true
is_empty (x ∷ xs) = false

-- There is a tag, and each has one of the four classes (X.680 8.1).
abbrev pub are_tags : List Tag → Bool
are_tags ts = not (is_empty ts) && list_all is_tag ts

-- Whether a type may begin with these tags: its own or the one it is given; for an untagged CHOICE, those of all its
-- alternatives in order; for a group of additions, those of its components (X.680 25, 29 and 31). What is below the
-- cut of a recursive type is not checked.
abbrev pub begins_with : List Tag → Schema → Bool
begins_with ts (group cs) = pointwise tag_same ts (component_tags cs)
begins_with (t ∷ []) s = true
begins_with ts (choice roots e adds) = pointwise tag_same ts (alternative_tags roots ++ alternative_tags adds)
begins_with ts cut = true
begins_with ts s = false

-- Whether a type may begin with these tags, and they are valid.
abbrev pub are_tags_of : List Tag → Schema → Bool
are_tags_of ts s = are_tags ts && begins_with ts s

abbrev pub are_no_components : Components → Bool
are_no_components no_component = true
are_no_components cs = false

-- The lower bound is not above the upper bound, if both are there.
abbrev pub is_range : Range → Bool
is_range r = option_map_or (λ low. option_map_or (λ high. is_at_most low high) r.high true) r.low true

abbrev pub are_counts : Counts → Bool
are_counts c = option_map_or (λ high. leb c.low high) c.high true

abbrev pub is_optional : Presence → Bool
is_optional optional = true
is_optional o = false

abbrev pub is_group : Schema → Bool
is_group (group cs) = true
is_group s = false

-- Groups occur only among additions (true), and there as optional.
abbrev pub are_groups_in_place : Bool → Components → Bool
are_groups_in_place added no_component = true
are_groups_in_place added (component t o s cs) =
    cond added (not (is_group s) || is_optional o) (not (is_group s)) && are_groups_in_place added cs

-- Additions come only after an extension marker, all tags differ (X.680 25 and 27), and groups are where they are
-- allowed.
abbrev pub is_sequence_table : Components → Bool → Components → Bool
is_sequence_table cs e adds =
    (e || are_no_components adds) && are_distinct tag_same (component_tags cs ++ component_tags adds)
    && are_groups_in_place false cs && are_groups_in_place true adds

-- Whether a default is a value of its component's type (X.680 25).
abbrev pub has_typed_default : Schema → Presence → Bool
has_typed_default s (by_default d) = is_of s d
has_typed_default s o = true

unfoldable mutual
  -- Whether a type is well-formed (X.680 20, 25 to 29).
  pub is_lawful : Schema → Bool
  is_lawful (integer b held) = is_range b.range && is_range held
  is_lawful (enumerated roots e adds) =
      not (is_empty roots) && (e || is_empty adds) && are_ascending int_lt roots && are_ascending int_lt adds
      && are_distinct same_number (roots ++ adds)
  is_lawful (bit_string z held) = are_counts z.counts && are_counts held
  is_lawful (octet_string z held) = are_counts z.counts && are_counts held
  is_lawful (character_string k z a held) = are_counts z.counts && are_counts held
  is_lawful (sequence_of z held s) = are_counts z.counts && are_counts held && not (is_group s) && is_lawful s
  is_lawful (set_of z held s) = are_counts z.counts && are_counts held && not (is_group s) && is_lawful s
  is_lawful (sequence cs e adds) = is_sequence_table cs e adds && are_lawful cs && are_lawful adds
  is_lawful (set cs e adds) =
      is_sequence_table cs e adds && are_ascending tag_less (component_places cs) && are_lawful cs && are_lawful adds
  is_lawful (group cs) =
      not (are_no_components cs) && are_distinct tag_same (component_tags cs) && are_groups_in_place false cs
      && are_lawful cs
  is_lawful (choice roots e adds) =
      not (is_empty (alternative_tags roots)) && (e || is_empty (alternative_tags adds))
      && are_ascending tag_less (alternative_tags roots)
      && are_distinct tag_same (alternative_tags roots ++ alternative_tags adds) && are_lawful_alternatives roots
      && are_lawful_alternatives adds
  is_lawful s = true

  -- Whether the types of all components are well-formed and have their tags, and their defaults are values of them
  -- (X.680 25).
  pub are_lawful : Components → Bool
  are_lawful no_component = true
  are_lawful (component t o s cs) = are_tags_of t s && has_typed_default s o && is_lawful s && are_lawful cs

  -- Whether the types of all alternatives are well-formed, their tags are valid, and none is a group.
  pub are_lawful_alternatives : Alternatives → Bool
  are_lawful_alternatives no_alternative = true
  are_lawful_alternatives (alternative t s others) =
      is_tag t && not (is_group s) && is_lawful s && are_lawful_alternatives others

-- `is_lawful` as a proposition.
abbrev pub IsLawful : Schema → Type 0
IsLawful s = IsTrue (is_lawful s)
