use Rattle.std.proofs.Common.{take}
use Rattle.asn1_notation_constraints.specs.Alphabets.{AreCharacters}
use Rattle.asn1_notation_constraints.proofs.alphabets.characters.Given as goal

-- The characters are those of the intervals so far.
abbrev pub invariant-loop-interval : goal.invariant-loop-interval
invariant-loop-interval l = AreCharacters (take l.interval-index l.interval-items) l.most l.characters.items
