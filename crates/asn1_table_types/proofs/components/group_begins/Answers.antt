use Rattle.std.proofs.Common.{◌∙◌, ap, map}
use Rattle.asn1_schema_tags.specs.Tags.{tag_of}
use Rattle.asn1_table_types.specs.Orders.{same_row}
use Rattle.asn1_table_types.proofs.TagLaws as laws
use Rattle.asn1_table_types.proofs.components.group_begins.Goals as goal

pub returns : goal.returns
returns c = λ f.
    c.are_same_tags.ensures
    ∙ ap (λ us. same_row (map tag_of c.args.tags.now) us) (ap (λ vs. map tag_of vs) c.as_slice.ensures.value ∙ c.in_ok-own.ensures)
    ∙ laws.group_begins f c.args.components.now (map tag_of c.args.tags.now)
