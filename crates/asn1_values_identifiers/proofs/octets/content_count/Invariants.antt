use Rattle.std.proofs.Common.{◌≡◌, ◌+◌, ◌*◌, ◌≤◌, take, length, flat_map}
use Rattle.asn1_model.specs.Strings.{groups_of_seven}
use Rattle.asn1_values_identifiers.proofs.octets.content_count.Given as goal

abbrev pub invariant-loop-arc : goal.invariant-loop-arc
invariant-loop-arc l = record {
  groups : l.count ≡ length (groups_of_seven l.first) + length (flat_map groups_of_seven (take l.arc-index l.others));
  most : l.count ≤ 5 * (l.arc-index + 1);
}
