use Rattle.std.proofs.Common.{◌≡◌, drop, map}
use Rattle.asn1_model.specs.Lawful.{are_distinct, tag_same}
use Rattle.asn1_schema_tags.specs.Tags.{tag_of}
use Rattle.asn1_table_types.proofs.tags.are_distinct_tags.Given as goal

abbrev pub invariant-loop-index : goal.invariant-loop-index
invariant-loop-index l = are_distinct tag_same (map tag_of (drop l.index l.tags)) ≡ are_distinct tag_same (map tag_of l.tags)
