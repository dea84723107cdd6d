use Rattle.std.proofs.Common.{◌∙◌}
use Rattle.asn1_schema_tags.specs.Tags.{tag_of}
use Rattle.asn1_schema_constructed.proofs.Tags.{of_tag_told}
use Rattle.asn1_schema_constructed.proofs.alternatives.alternative_of.Goals as goal

pub returns : goal.returns
returns g c = c.alternative.ensures ∙ of_tag_told g.T.Alternatives.table c.tag_tables_of.result (tag_of c.args.tag) c.tag_tables_of.ensures.told c.tag_tables_of.ensures.closed
