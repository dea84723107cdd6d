use Rattle.std.proofs.Common.{◌≡◌, drop, map}
use lib.Pointwise.{pointwise}
use Rattle.asn1_model.specs.Lawful.{tag_same}
use Rattle.asn1_schema_tags.specs.Tags.{tag_of}
use Rattle.asn1_table_types.proofs.tags.are_same_tags.Given as goal

abbrev pub invariant-loop-index : goal.invariant-loop-index
invariant-loop-index l =
    pointwise tag_same (map tag_of (drop l.index l.one)) (map tag_of (drop l.index l.other)) ≡ pointwise tag_same (map tag_of l.one) (map tag_of l.other)
