use Rattle.std.proofs.Common.{◌≡◌, ◌++◌}
use Rattle.std.specs.List.{range_with_len}
use Rattle.asn1_notation_constraints.proofs.alphabets.push_run.Given as goal

abbrev pub invariant-loop-offset : goal.invariant-loop-offset
invariant-loop-offset l = l.characters.items ≡ l.fn.characters.items ++ range_with_len l.first l.offset
