use Rattle.std.proofs.Common.{◌≡◌, true, take}
use Rattle.asn1_notation_constraints.specs.Constraints.{are_below}
use Rattle.asn1_notation_constraints.proofs.constraints.are_below.Given as goal

abbrev pub invariant-loop-part : goal.invariant-loop-part
invariant-loop-part l = are_below l.index (take l.part-index l.parts) ≡ true
