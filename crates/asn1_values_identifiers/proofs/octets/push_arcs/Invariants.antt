use Rattle.std.proofs.Common.{◌≡◌, ◌++◌, take, flat_map}
use Rattle.asn1_model.specs.Strings.{groups_of_seven}
use Rattle.asn1_values_identifiers.proofs.octets.push_arcs.Given as goal

abbrev pub invariant-loop-arc : goal.invariant-loop-arc
invariant-loop-arc l = l.octets.items ≡ l.initial.octets.items ++ flat_map groups_of_seven (take l.arc-index l.arcs)
