use Rattle.std.proofs.Common.{◌≡◌, drop, map, option_map}
use Rattle.asn1_schema_tags.specs.Tags.{tag_of}
use Rattle.asn1_table_nodes.specs.Meaning.{least_of}
use Rattle.asn1_table_types.specs.Orders.{least_with}
use Rattle.asn1_table_types.proofs.tags.least_tag.Given as goal

abbrev pub invariant-loop-tag : goal.invariant-loop-tag
invariant-loop-tag l = least_with (option_map tag_of l.least) (map tag_of (drop l.tag-index l.tags)) ≡ least_of (map tag_of l.tags)
