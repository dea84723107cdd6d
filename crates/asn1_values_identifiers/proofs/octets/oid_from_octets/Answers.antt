use Rattle.std.proofs.Common.{ap, ◌∙◌}
use Rattle.asn1_model.specs.Strings.{identifier_octets, is_identifier}
use Rattle.asn1_values_identifiers.proofs.Whole.{read_written, each_octet}
use Rattle.asn1_values_identifiers.proofs.octets.oid_from_octets.Goals as goal

pub returns-clause-written : goal.returns-clause-written
returns-clause-written c =
    let w = read_written c.args.octets.now c.in_ok-arcs.arcs.items (each_octet c.args.octets.now c.type_inv.octets) c.in_ok-arcs.ensures.read in
    ap identifier_octets c.new_unchecked.ensures ∙ w.octets

pub returns-clause-identifier : goal.returns-clause-identifier
returns-clause-identifier c =
    let w = read_written c.args.octets.now c.in_ok-arcs.arcs.items (each_octet c.args.octets.now c.type_inv.octets) c.in_ok-arcs.ensures.read in
    ap is_identifier c.new_unchecked.ensures ∙ w.identifier
