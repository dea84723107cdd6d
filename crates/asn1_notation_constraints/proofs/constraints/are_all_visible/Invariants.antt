use Rattle.std.proofs.Common.{◌≡◌, true, map, take}
use Rattle.asn1_notation_constraints.specs.Constraints.{all_visible, sight_of}
use Rattle.asn1_notation_constraints.proofs.constraints.are_all_visible.Given as goal

abbrev pub invariant-loop-index : goal.invariant-loop-index
invariant-loop-index l = all_visible (map sight_of l.parts) (take l.index-index l.of) ≡ true
