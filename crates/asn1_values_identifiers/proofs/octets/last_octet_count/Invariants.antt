use Rattle.std.proofs.Common.{◌≤◌}
use Rattle.asn1_values_identifiers.proofs.octets.last_octet_count.Given as goal

abbrev pub invariant-loop-octet : goal.invariant-loop-octet
invariant-loop-octet l = l.count ≤ l.octet-index
