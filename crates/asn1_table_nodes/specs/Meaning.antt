-- What a table of types means: the type at each index, unfolded to any number of nested levels. Each constructed type
-- takes a level, so a type may be recursive.
use Rattle.std.specs.Prelude.{ℕ, zero, suc, Bool, true, false, List, [], ◌∷◌, map, flat_map, Option, Some, None}
use Rattle.std.specs.Prelude.{slice_get}
use Rattle.asn1_model.specs.Schema as model
use Rattle.asn1_model.specs.Schema.{Range, Bounds, Alphabet, Schema, cut, boolean, null, integer, enumerated}
use Rattle.asn1_model.specs.Schema.{bit_string, octet_string, character_string, object_identifier, sequence_of}
use Rattle.asn1_model.specs.Schema.{set_of, sequence, set, group, choice, Components, no_component, component}
use Rattle.asn1_model.specs.Schema.{Alternatives}
use Rattle.asn1_model.specs.Schema.{no_alternative, alternative, any_number, wide_range, any_count, any_alphabet}
use Rattle.asn1_model.specs.Lawful.{smallest}
use Rattle.asn1_schema_constraints.specs.Bounds.{range_of, members_of}
use Rattle.asn1_schema_constraints.specs.Terms.{size_of}
use Rattle.asn1_schema_constraints.specs.declared.bounds.Bounded.TheVariants.{None as Unbounded}
use Rattle.asn1_schema_tags.specs.Tags.{tag_of}
use Rattle.asn1_table_nodes.specs.Values.{value_of}
use Rattle.asn1_table_nodes.specs.declared.nodes.NumberLimits.{NumberLimits}
use Rattle.asn1_table_nodes.specs.declared.nodes.CharacterTable.{CharacterTable}
use Rattle.asn1_table_nodes.specs.declared.nodes.StringKind.{StringKind}
use Rattle.asn1_table_nodes.specs.declared.nodes.StringKind.TheVariants as kind
use Rattle.asn1_table_nodes.specs.declared.nodes.Component.{Component}
use Rattle.asn1_table_nodes.specs.declared.nodes.Alternative.{Alternative}
use Rattle.asn1_table_nodes.specs.declared.nodes.Presence.{Presence}
use Rattle.asn1_table_nodes.specs.declared.nodes.Presence.TheVariants.{Required, Optional, Default}
use Rattle.asn1_table_nodes.specs.declared.nodes.TypeNode.{TypeNode}
use Rattle.asn1_table_nodes.specs.declared.nodes.TypeNode.TheVariants as node

-- The bounds of a value constraint, where there is one (X.680 51.4 and 52).
abbrev pub bounds_in : Option NumberLimits → Bounds
bounds_in None = record { range = any_number; extensible = false }
bounds_in (Some l) = record { range = range_of l.root; extensible = l.is_extensible }

-- The numbers that are held: under a value constraint those of 128 bits of two's complement.
abbrev pub held_in : Option NumberLimits → Range
held_in None = any_number
held_in (Some l) = wide_range

-- The kinds of restricted character strings (X.680 41).
abbrev pub kind_of : StringKind → model.StringKind
kind_of kind.Numeric = model.numeric
kind_of kind.Printable = model.printable
kind_of kind.Visible = model.visible
kind_of kind.Ia5 = model.ia5
kind_of kind.Bmp = model.bmp
kind_of kind.General = model.general
kind_of kind.Graphic = model.graphic
kind_of kind.Teletex = model.teletex
kind_of kind.Utf8 = model.utf8

-- A permitted alphabet, where there is one (X.680 51.7 and 52).
abbrev pub alphabet_in : Option CharacterTable → Alphabet
alphabet_in None = any_alphabet
alphabet_in (Some a) = record { characters = Some a.characters.items; extensible = a.is_extensible }

abbrev pub presence_of : Presence → model.Presence
presence_of Required = model.required
presence_of Optional = model.optional
presence_of (Default d) = model.by_default (value_of d)

-- Components, with the type at each index.
abbrev pub components_of : (ℕ → Schema) → List Component → Components
components_of f [] = no_component
components_of f (c ∷ cs) = component (map tag_of c.tags.items) (presence_of c.presence) (f c.place)
    (components_of f cs)

-- The tags of components, in turn.
abbrev pub tags_in : List Component → List model.Tag
tags_in cs = flat_map (λ c. map tag_of c.tags.items) cs

-- The smallest of some tags, where there is one.
abbrev pub least_of : List model.Tag → List model.Tag
least_of [] = []
least_of (t ∷ ts) = smallest t ts ∷ []

-- The smallest tag of each component that has one.
abbrev pub places_in : List Component → List model.Tag
places_in cs = flat_map (λ c. least_of (map tag_of c.tags.items)) cs

-- Alternatives, with the type at each index.
abbrev pub alternatives_of : (ℕ → Schema) → List Alternative → Alternatives
alternatives_of f [] = no_alternative
alternatives_of f (a ∷ others) = alternative (tag_of a.tag) (f a.place) (alternatives_of f others)

-- The tags of alternatives.
abbrev pub tags_among : List Alternative → List model.Tag
tags_among others = map (λ a. tag_of a.tag) others

-- A node of a table, unfolded to a number of levels; an index outside of the table is as one below the cut of a
-- recursive type. Lists hold as many elements as 64 bits count.
abbrev pub type_of : List TypeNode → ℕ → Option TypeNode → Schema
type_of ns n None = cut
type_of ns n (Some node.Boolean) = boolean
type_of ns n (Some node.Null) = null
type_of ns n (Some (node.Integer l)) = integer (bounds_in l) (held_in l)
type_of ns n (Some (node.Enumerated t)) = enumerated t.root.items t.is_extensible t.additions.items
type_of ns n (Some (node.BitString z)) = bit_string (size_of z) any_count
type_of ns n (Some (node.OctetString z)) = octet_string (size_of z) any_count
type_of ns n (Some (node.CharacterString t)) =
    character_string (kind_of t.kind) (size_of t.sizes) (alphabet_in t.alphabet) any_count
type_of ns n (Some node.ObjectIdentifier) = object_identifier
type_of ns zero (Some (node.SequenceOf z i)) = cut
type_of ns zero (Some (node.SetOf z i)) = cut
type_of ns zero (Some (node.Sequence t)) = cut
type_of ns zero (Some (node.Set t)) = cut
type_of ns zero (Some (node.Group cs)) = cut
type_of ns zero (Some (node.Choice t)) = cut
type_of ns (suc n) (Some (node.SequenceOf z i)) =
    sequence_of (size_of z) (members_of Unbounded) (type_of ns n (slice_get ns i))
type_of ns (suc n) (Some (node.SetOf z i)) =
    set_of (size_of z) (members_of Unbounded) (type_of ns n (slice_get ns i))
type_of ns (suc n) (Some (node.Sequence t)) =
    sequence (components_of (λ i. type_of ns n (slice_get ns i)) t.root.items) t.is_extensible
    (components_of (λ i. type_of ns n (slice_get ns i)) t.additions.items)
type_of ns (suc n) (Some (node.Set t)) =
    set (components_of (λ i. type_of ns n (slice_get ns i)) t.root.items) t.is_extensible
    (components_of (λ i. type_of ns n (slice_get ns i)) t.additions.items)
type_of ns (suc n) (Some (node.Group cs)) = group (components_of (λ i. type_of ns n (slice_get ns i)) cs.items)
type_of ns (suc n) (Some (node.Choice t)) =
    choice (alternatives_of (λ i. type_of ns n (slice_get ns i)) t.root.items) t.is_extensible
    (alternatives_of (λ i. type_of ns n (slice_get ns i)) t.additions.items)

-- The type at an index of a table, unfolded to a number of levels.
abbrev pub type_at : List TypeNode → ℕ → ℕ → Schema
type_at ns n i = type_of ns n (slice_get ns i)

-- A type that begins with one tag: no group of additions, and no CHOICE.
abbrev pub is_plain : TypeNode → Bool
is_plain (node.Group cs) = false
is_plain (node.Choice t) = false
is_plain x = true
