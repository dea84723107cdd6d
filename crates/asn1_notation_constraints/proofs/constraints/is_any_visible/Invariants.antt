use Rattle.std.proofs.Common.{◌≡◌, false, map, take}
use Rattle.asn1_notation_constraints.specs.Constraints.{any_visible, sight_of}
use Rattle.asn1_notation_constraints.proofs.constraints.is_any_visible.Given as goal

abbrev pub invariant-loop-index : goal.invariant-loop-index
invariant-loop-index l = any_visible (map sight_of l.parts) (take l.index-index l.of) ≡ false
