use Rattle.std.proofs.Common.{◌≡◌, drop, map}
use Rattle.asn1_model.specs.Value.{are_absent}
use Rattle.asn1_table_nodes.specs.Values.{part_of, parts_of}
use Rattle.asn1_table_nodes.proofs.reduced.are_absent.Given as goal

-- What holds of the rest holds of all.
abbrev pub invariant-loop-part : goal.invariant-loop-part
invariant-loop-part l = are_absent (parts_of (map part_of (drop l.part-index l.parts))) ≡ are_absent (parts_of (map part_of l.parts))
