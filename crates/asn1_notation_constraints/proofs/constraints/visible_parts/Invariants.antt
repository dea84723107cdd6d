use Rattle.asn1_notation_constraints.proofs.Turns.{AreSeen}
use Rattle.asn1_notation_constraints.proofs.constraints.visible_parts.Given as goal

-- The parts so far are seen.
abbrev pub invariant-loop-index : goal.invariant-loop-index
invariant-loop-index l = AreSeen l.terms l.parts.items l.index
