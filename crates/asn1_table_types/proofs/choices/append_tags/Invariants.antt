use Rattle.std.proofs.Common.{◌≡◌, ◌++◌, drop, map}
use Rattle.asn1_schema_tags.specs.Tags.{tag_of}
use Rattle.asn1_table_nodes.specs.Meaning.{tags_among}
use Rattle.asn1_table_types.proofs.choices.append_tags.Given as goal

abbrev pub invariant-loop-alternative : goal.invariant-loop-alternative
invariant-loop-alternative l =
    map tag_of l.tags.items ++ tags_among (drop l.alternative-index l.alternatives) ≡ map tag_of l.fn.tags.items ++ tags_among l.alternatives
