use Rattle.std.proofs.Common.{◌≡◌, drop, option_map}
use Rattle.asn1_model.specs.Lawful.{are_ascending, tag_less}
use Rattle.asn1_schema_tags.specs.Tags.{tag_of}
use Rattle.asn1_table_nodes.specs.Meaning.{places_in}
use Rattle.asn1_table_types.specs.Orders.{ascend_behind}
use Rattle.asn1_table_types.proofs.components.are_in_order.Given as goal

abbrev pub invariant-loop-component : goal.invariant-loop-component
invariant-loop-component l =
    ascend_behind tag_less (option_map tag_of l.last) (places_in (drop l.component-index l.components)) ≡ are_ascending tag_less (places_in l.components)
