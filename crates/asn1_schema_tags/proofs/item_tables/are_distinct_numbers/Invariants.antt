use Rattle.std.proofs.Common.{◌≡◌, drop}
use Rattle.asn1_model.specs.Lawful.{are_distinct}
use Rattle.asn1_model.specs.Value.{same_number}
use Rattle.asn1_schema_tags.proofs.item_tables.are_distinct_numbers.Given as goal

abbrev pub invariant-loop-index : goal.invariant-loop-index
invariant-loop-index l = are_distinct same_number (drop l.index l.numbers) ≡ are_distinct same_number l.numbers
