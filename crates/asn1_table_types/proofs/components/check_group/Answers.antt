use Rattle.std.proofs.lemmas.Bool.{or_right}
use Rattle.asn1_table_nodes.specs.Meaning.{type_at}
use Rattle.asn1_table_types.proofs.Refused.{raised}
use Rattle.asn1_table_types.proofs.TagLaws.{bare_lacks, group_twice_lacks, group_is, told, told_false}
use Rattle.asn1_table_types.proofs.components.check_group.Goals as goal

pub returns-then-is_none-clause-lacking : goal.returns-then-is_none-clause-lacking
returns-then-is_none-clause-lacking c =
    bare_lacks (λ i. type_at c.args.nodes.now 1 i) c.args.components.now (told c.is_none.ensures c.if-is_none.true)

pub returns-then-not-is_distinct-clause-lacking : goal.returns-then-not-is_distinct-clause-lacking
returns-then-not-is_distinct-clause-lacking c =
    group_twice_lacks (λ i. type_at c.args.nodes.now 1 i) c.args.components.now c.in_ok-is_distinct.ensures c.if-not-is_distinct.true

pub returns-in_err-check_components-clause-lacking : goal.returns-in_err-check_components-clause-lacking
returns-in_err-check_components-clause-lacking c =
    raised _ _ _ _ c.from_residual-in_err-check_components.ensures.1 (λ f h. or_right _ _ h) c.in_err-check_components.ensures.lacking

pub returns-clause-sound : goal.returns-clause-sound
returns-clause-sound c =
    group_is (λ i. type_at c.args.nodes.now 1 i) c.args.components.now (told_false c.is_none.ensures c.if-is_none.false)
    c.in_ok-is_distinct.ensures c.if-not-is_distinct.false c.in_ok-check_components.ensures.sound
