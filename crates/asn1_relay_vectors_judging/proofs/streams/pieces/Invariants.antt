use Rattle.std.proofs.Common.{◌≤◌}
use Rattle.asn1_relay_vectors_judging.proofs.streams.pieces.Given as goal

abbrev pub invariant-loop-place : goal.invariant-loop-place
invariant-loop-place l = l.begin ≤ l.place
