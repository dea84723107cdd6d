use Rattle.std.proofs.Common.{◌≡◌, ◌++◌, drop, map}
use Rattle.asn1_schema_tags.specs.Tags.{tag_of}
use Rattle.asn1_table_nodes.specs.Meaning.{tags_in}
use Rattle.asn1_table_types.proofs.components.append_tags.Given as goal

abbrev pub invariant-loop-component : goal.invariant-loop-component
invariant-loop-component l =
    map tag_of l.tags.items ++ tags_in (drop l.component-index l.components) ≡ map tag_of l.fn.tags.items ++ tags_in l.components
