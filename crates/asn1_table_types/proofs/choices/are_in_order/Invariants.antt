use Rattle.std.proofs.Common.{◌≡◌, drop, option_map}
use Rattle.asn1_model.specs.Lawful.{are_ascending, tag_less}
use Rattle.asn1_schema_tags.specs.Tags.{tag_of}
use Rattle.asn1_table_nodes.specs.Meaning.{tags_among}
use Rattle.asn1_table_types.specs.Orders.{ascend_behind}
use Rattle.asn1_table_types.proofs.choices.are_in_order.Given as goal

abbrev pub invariant-loop-alternative : goal.invariant-loop-alternative
invariant-loop-alternative l =
    ascend_behind tag_less (option_map tag_of l.last) (tags_among (drop l.alternative-index l.alternatives)) ≡ are_ascending tag_less (tags_among l.alternatives)
