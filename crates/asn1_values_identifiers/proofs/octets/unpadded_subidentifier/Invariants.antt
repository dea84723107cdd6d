use Rattle.std.proofs.Common.{◌≡◌, ◌≤◌, drop, Some}
use Rattle.asn1_values_identifiers.specs.Identifiers.{subidentifiers}
use Rattle.asn1_values_identifiers.proofs.octets.unpadded_subidentifier.Given as goal

abbrev pub invariant-loop-i : goal.invariant-loop-i
invariant-loop-i l = record {
  small : l.number ≤ l.limit;
  same : subidentifiers l.limit (Some 0) l.octets ≡ subidentifiers l.limit (Some l.number) (drop l.i l.octets);
}
