use Rattle.std.proofs.Common.{◌≡◌, drop}
use Rattle.asn1_schema_tags.specs.Plain.{are_same, same_tree}
use Rattle.asn1_schema_tags.proofs.SameLaws.{row_of}
use Rattle.asn1_schema_tags.proofs.trees.TagTree.+is_same_as.Given as goal

abbrev pub invariant-loop-i : goal.invariant-loop-i
invariant-loop-i l = are_same (row_of (drop l.i l.node-items)) (row_of (drop l.i l.others.now)) ≡ same_tree l.self l.other
