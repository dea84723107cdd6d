use Rattle.asn1_schema_constraints.specs.Terms.{size_of}
use Rattle.asn1_table_building.proofs.Sizes.{utf8_inside}
use Rattle.asn1_table_building.proofs.admitting.is_text_inside.Goals as goal

pub returns-in-Utf8 : goal.returns-in-Utf8
returns-in-Utf8 c = utf8_inside (size_of c.args.sizes) c.args.text.now c.in-Utf8.field-0 c.in-Utf8.is
