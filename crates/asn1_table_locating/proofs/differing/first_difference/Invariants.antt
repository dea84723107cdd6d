use Rattle.std.proofs.Common.{◌≡◌, take}
use Rattle.asn1_table_locating.proofs.differing.first_difference.Given as goal

abbrev pub invariant-loop-index : goal.invariant-loop-index
invariant-loop-index l = take l.index l.left ≡ take l.index l.right
