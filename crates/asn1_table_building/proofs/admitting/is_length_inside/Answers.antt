use Rattle.std.proofs.Common.{◌∙◌, sym}
use Rattle.asn1_schema_constraints.specs.Terms.{size_of}
use Rattle.asn1_table_building.proofs.Sizes.{any_size}
use Rattle.asn1_table_building.proofs.admitting.is_length_inside.Goals as goal

pub returns : goal.returns
returns c = c.is_size_of.ensures ∙ sym (any_size (size_of c.args.sizes) c.args.length)
