use Rattle.std.proofs.Common.{◌≡◌, true, take}
use Rattle.asn1_notation_constraints.specs.Constraints.{are_below}
use Rattle.asn1_notation_constraints.proofs.constraints.first_missing.Given as goal

abbrev pub invariant-loop-index : goal.invariant-loop-index
invariant-loop-index l = are_below l.count (take l.index l.constraints) ≡ true
