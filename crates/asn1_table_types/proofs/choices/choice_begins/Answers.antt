use Rattle.std.proofs.Common.{◌∙◌, ap, ◌==◌, true, cond, length, map, ◌++◌}
use Rattle.asn1_schema_tags.specs.Tags.{tag_of}
use Rattle.asn1_table_types.specs.Orders.{same_row}
use Rattle.asn1_table_nodes.specs.Meaning.{tags_among}
use Rattle.asn1_table_types.proofs.TagLaws as laws
use Rattle.asn1_table_types.proofs.choices.choice_begins.Goals as goal

pub returns : goal.returns
returns c = λ f.
    c.in_ok-all.ensures
    ∙ ap (λ xs. cond (length c.args.tags.now == 1) true (same_row (map tag_of c.args.tags.now) (tags_among xs ++ tags_among c.as_slice-2.result.now))) c.as_slice.ensures.value
    ∙ ap (λ ys. cond (length c.args.tags.now == 1) true (same_row (map tag_of c.args.tags.now) (tags_among c.args.table.now.root.items ++ tags_among ys))) c.as_slice-2.ensures.value
    ∙ laws.choice_begins f c.args.table.now.root.items c.args.table.now.is_extensible c.args.table.now.additions.items c.args.tags.now
