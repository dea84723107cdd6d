use Rattle.std.proofs.Common.{◌∙◌, sym, ap, ◌&&◌, length}
use Rattle.asn1_model.specs.Numbers.{admits}
use Rattle.asn1_model.specs.Schema.{any_count}
use Rattle.asn1_schema_constraints.specs.Terms.{size_of}
use Rattle.asn1_values_identifiers.proofs.Whole.{each_octet}
use Rattle.asn1_table_building.proofs.admitting.are_octets_inside.Goals as goal

pub returns : goal.returns
returns c = c.is_length_inside.ensures ∙ sym (ap (λ b. b && admits (size_of c.args.sizes) any_count (length c.args.octets.now)) (each_octet c.args.octets.now c.type_inv.octets))
