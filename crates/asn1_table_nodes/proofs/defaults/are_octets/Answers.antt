use Rattle.std.proofs.Common.{◌∙◌, sym, ap, ◌&&◌, length}
use Rattle.asn1_table_nodes.specs.Defaults.{is_size_of}
use Rattle.asn1_values_identifiers.proofs.Whole.{each_octet}
use Rattle.asn1_table_nodes.proofs.defaults.are_octets.Goals as goal

pub returns : goal.returns
returns c = c.is_size.ensures ∙ sym (ap (λ b. b && is_size_of c.args.sizes (length c.args.octets.now)) (each_octet c.args.octets.now c.type_inv.octets))
