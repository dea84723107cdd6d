-- The tags of each CHOICE of a table.
use Rattle.std.specs.Prelude.{◌≡◌, ℕ, Bool, true, List, ◌++◌, length, Option, Some, None, slice_get}
use Rattle.asn1_model.specs.Schema.{Tag}
use Rattle.asn1_model.specs.Lawful.{are_distinct, tag_same}
use Rattle.asn1_schema_tags.specs.Chosen.{ChoiceTags}
use Rattle.asn1_schema_tags.specs.Places.{is_table_of}
use Rattle.asn1_schema_tags.specs.declared.probes.TagPlace.{TagPlace}
use Rattle.asn1_table_nodes.specs.declared.nodes.AlternativeTable.{AlternativeTable}
use Rattle.asn1_table_nodes.specs.declared.nodes.TypeNode.{TypeNode}
use Rattle.asn1_table_nodes.specs.declared.nodes.TypeNode.TheVariants as node
use Rattle.asn1_table_nodes.specs.Meaning.{tags_among}

-- The tags of a CHOICE (X.680 29).
abbrev pub tags_of : AlternativeTable → ChoiceTags
tags_of t = record {
  roots = tags_among t.root.items;
  extensible = t.is_extensible;
  additions = tags_among t.additions.items;
}

-- Those of a type, if it is a CHOICE.
abbrev pub tags_in : TypeNode → Option ChoiceTags
tags_in (node.Choice t) = Some (tags_of t)
tags_in x = None

abbrev pub tags_there : Option TypeNode → Option ChoiceTags
tags_there None = None
tags_there (Some x) = tags_in x

-- Those of the type at an index of a table, if a CHOICE is there.
abbrev pub tags_at : List TypeNode → ℕ → Option ChoiceTags
tags_at ns i = tags_there (slice_get ns i)

-- No tag of some root alternatives and added ones occurs twice (X.680 29).
abbrev pub have_own_tags : AlternativeTable → Bool
have_own_tags t = are_distinct tag_same (tags_among t.root.items ++ tags_among t.additions.items)

-- No tag of a CHOICE occurs twice.
abbrev pub has_own_tags : TypeNode → Bool
has_own_tags (node.Choice t) = have_own_tags t
has_own_tags x = true

-- A table lists exactly some tags, each with its index, and has as many entries.
abbrev pub Lists : List TagPlace → List Tag → Type 0
Lists ps ts = (is_table_of ps ts ≡ true) × (length ps ≡ length ts)
