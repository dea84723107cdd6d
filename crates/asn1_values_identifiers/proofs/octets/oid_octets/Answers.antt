use Rattle.std.proofs.Common.{ap, sym, ◌++◌, ◌∙◌}
use Rattle.asn1_values_identifiers.specs.Groups.{contents}
use Rattle.asn1_values_identifiers.specs.Identifiers.{arcs_of}
use Rattle.asn1_values_identifiers.proofs.Whole.{identifier_read}
use Rattle.asn1_values_identifiers.proofs.octets.oid_octets.Goals as goal

pub returns-clause-octets : goal.returns-clause-octets
returns-clause-octets c = c.in_ok-push_contents.ensures.text ∙ ap (λ l. l ++ contents c.in-Some.parts.0 c.in-Some.parts.1.now) c.in_ok-octets.ensures.items ∙ sym c.in-Some.ensures.octets

pub returns-clause-reads_back : goal.returns-clause-reads_back
returns-clause-reads_back c = ap arcs_of (returns-clause-octets c) ∙ identifier_read c.args.identifier.now c.in-Some.ensures.identifier
