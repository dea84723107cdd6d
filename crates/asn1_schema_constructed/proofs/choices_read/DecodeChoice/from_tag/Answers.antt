use Rattle.std.proofs.Common.{◌∙◌, sym}
use Rattle.asn1_schema_constructed.proofs.Tags.{of_tag_among}
use Rattle.asn1_schema_constructed.proofs.choices_read.DecodeChoice.from_tag.Goals as goal

pub from_chosen-requires : goal.from_chosen-requires
from_chosen-requires g c = of_tag_among g.Self.Alternatives.table _ c.in-Some.chosen (sym c.alternative_of.ensures ∙ c.in-Some.is)
