use Rattle.std.proofs.Common.{◌≡◌, ◌^◌, length, None}
use Rattle.asn1_values_identifiers.specs.Identifiers.{subidentifiers, joined}
use Rattle.asn1_values_identifiers.proofs.octets.read_arcs.Given as goal

abbrev pub invariant-loop-rest : goal.invariant-loop-rest
invariant-loop-rest l = joined l.fn.arcs.items (subidentifiers (2 ^ 32) None l.octets) ≡ joined l.arcs.items (subidentifiers (2 ^ 32) None l.rest)

abbrev pub decreases-loop-rest : goal.decreases-loop-rest
decreases-loop-rest l = length l.rest
