use Rattle.asn1_values_identifiers.proofs.Whole.{valid_identifier, each_below}
use Rattle.asn1_values_identifiers.proofs.octets.split_arcs.Goals as goal

pub returns-clause-identifier : goal.returns-clause-identifier
returns-clause-identifier c = valid_identifier c.args.arcs.now c.requires c.if-arcs-lt2.false (each_below c.args.arcs.now c.type_inv.arcs)
