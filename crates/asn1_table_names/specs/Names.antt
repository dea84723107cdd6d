-- The names of types and of their parts.
use Rattle.std.specs.Prelude.{◌≡◌, ℕ, ℤ, List, Option, Some, None, cond, option_map, slice_get, string_bytes}
use Rattle.std.specs.Option.{option_and_then}
use Rattle.asn1_schema_tags.specs.Items.{IsPlaced, ItemNumbers}
use Rattle.asn1_schema_tags.specs.declared.chosen.Chosen.{Chosen}
use Rattle.asn1_table_names.specs.Texts.{text_at}
use Rattle.asn1_table_names.specs.declared.names.TypeNames.{TypeNames}
use Rattle.asn1_table_names.specs.declared.parts.Part.{Part}
use Rattle.asn1_table_names.specs.declared.parts.Part.TheVariants.{Root, Addition, Grouped}
use Rattle.asn1_table_tape.specs.Terms.{lists_in}
use Rattle.asn1_table_nodes.specs.declared.nodes.Component.{Component}
use Rattle.asn1_table_nodes.specs.declared.nodes.TypeNode.{TypeNode}
use Rattle.asn1_table_nodes.specs.declared.nodes.TypeNode.TheVariants.{Enumerated, Group}

-- The name of the type at an index.
abbrev pub type_text : List TypeNames → ℕ → Option (List ℕ)
type_text ts i = option_map (λ t. string_bytes t.name) (slice_get ts i)

-- The name of its root part at an index, and of its added part.
abbrev pub root_text : List TypeNames → ℕ → ℕ → Option (List ℕ)
root_text ts i k = option_and_then (λ t. text_at t.root.items k) (slice_get ts i)

abbrev pub added_text : List TypeNames → ℕ → ℕ → Option (List ℕ)
added_text ts i k = option_and_then (λ t. text_at t.additions.items k) (slice_get ts i)

-- The addition at an index of the SEQUENCE or SET at an index.
abbrev pub addition_of : List TypeNode → ℕ → ℕ → Option Component
addition_of ns i k = option_and_then (λ t. slice_get t.additions k) (lists_in (slice_get ns i))

-- The index of the type of a component, if it is a group of additions.
abbrev pub if_group : ℕ → Option TypeNode → Option ℕ
if_group i (Some (Group cs)) = Some i
if_group i o = None

-- The index of the type of the group of additions at an index.
abbrev pub group_of : List TypeNode → ℕ → ℕ → Option ℕ
group_of ns i k = option_and_then (λ c. if_group c.place (slice_get ns c.place)) (addition_of ns i k)

-- The name of a component.
abbrev pub part_text : List TypeNode → List TypeNames → ℕ → Part → Option (List ℕ)
part_text ns ts i (Root k) = root_text ts i k
part_text ns ts i (Addition k) = added_text ts i k
part_text ns ts i (Grouped a k) = option_and_then (λ g. root_text ts g k) (group_of ns i a)

-- The name of an alternative, and of an item, by its index.
abbrev pub alternative_text : List TypeNames → ℕ → Chosen → Option (List ℕ)
alternative_text ts i c = cond c.added (added_text ts i c.place) (root_text ts i c.place)

-- The items of an ENUMERATED.
abbrev pub items_in : Option TypeNode → Option ItemNumbers
items_in (Some (Enumerated t)) =
    Some (record { roots = t.root.items; extensible = t.is_extensible; additions = t.additions.items })
items_in o = None

-- A name is that of an item (X.680 20).
pub record NamesItem (ns : List TypeNode) (ts : List TypeNames) (i : ℕ) (v : ℤ) (name : List ℕ) : Type 0 where
  pub items : ItemNumbers
  pub listed : items_in (slice_get ns i) ≡ Some items
  pub index : Chosen
  pub placed : IsPlaced items.roots items.extensible items.additions v index.added index.place
  pub named : alternative_text ts i index ≡ Some name
