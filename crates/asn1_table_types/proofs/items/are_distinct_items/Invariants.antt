use Rattle.std.proofs.Common.{◌≡◌, drop}
use Rattle.asn1_model.specs.Lawful.{are_distinct}
use Rattle.asn1_model.specs.Value.{same_number}
use Rattle.asn1_table_types.proofs.items.are_distinct_items.Given as goal

abbrev pub invariant-loop-index : goal.invariant-loop-index
invariant-loop-index l = are_distinct same_number (drop l.index l.items) ≡ are_distinct same_number l.items
