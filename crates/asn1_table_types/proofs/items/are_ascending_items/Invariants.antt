use Rattle.std.proofs.Common.{◌≡◌, int_lt, drop}
use Rattle.asn1_model.specs.Lawful.{are_ascending}
use Rattle.asn1_table_types.specs.Orders.{ascend_behind}
use Rattle.asn1_table_types.proofs.items.are_ascending_items.Given as goal

abbrev pub invariant-loop-item : goal.invariant-loop-item
invariant-loop-item l = ascend_behind int_lt l.last (drop l.item-index l.items) ≡ are_ascending int_lt l.items
