use Rattle.asn1_values_bits.proofs.Refused.{though_refused}
use Rattle.asn1_values_identifiers.proofs.Begins.{begins_behind}
use Rattle.asn1_values_identifiers.proofs.octets.push_arcs.Goals as goal

pub returns-in_err-push_groups-clause-kept : goal.returns-in_err-push_groups-clause-kept
returns-in_err-push_groups-clause-kept c = though_refused _ (begins_behind _ _ _ _ c.loop-arc.invariant c.in_err-push_groups.ensures.kept)
