use Rattle.asn1_table_nodes.specs.Meaning.{type_at}
use Rattle.asn1_table_types.proofs.TagLaws.{choice_bare_lacks, choice_unmarked_lacks, choice_order_lacks, choice_twice_lacks, choice_is, told, told_false}
use Rattle.asn1_table_types.proofs.choices.check_both.Goals as goal

pub returns-then-is_none-clause-lacking : goal.returns-then-is_none-clause-lacking
returns-then-is_none-clause-lacking c =
    choice_bare_lacks (λ i. type_at c.args.nodes.now 1 i) c.args.root.now c.args.is_extensible c.args.additions.now (told c.is_none.ensures c.if-is_none.true)

pub returns-then-not-is_marked-clause-lacking : goal.returns-then-not-is_marked-clause-lacking
returns-then-not-is_marked-clause-lacking c =
    choice_unmarked_lacks (λ i. type_at c.args.nodes.now 1 i) c.args.root.now c.args.is_extensible c.args.additions.now c.is_marked.ensures c.if-not-is_marked.true

pub returns-then-not-are_in_order-clause-lacking : goal.returns-then-not-are_in_order-clause-lacking
returns-then-not-are_in_order-clause-lacking c =
    choice_order_lacks (λ i. type_at c.args.nodes.now 1 i) c.args.root.now c.args.is_extensible c.args.additions.now c.are_in_order.ensures c.if-not-are_in_order.true

pub returns-then-not-is_distinct-clause-lacking : goal.returns-then-not-is_distinct-clause-lacking
returns-then-not-is_distinct-clause-lacking c =
    choice_twice_lacks (λ i. type_at c.args.nodes.now 1 i) c.args.root.now c.args.is_extensible c.args.additions.now c.in_ok-is_distinct.ensures c.if-not-is_distinct.true

pub returns-clause-sound : goal.returns-clause-sound
returns-clause-sound c =
    choice_is (λ i. type_at c.args.nodes.now 1 i) c.args.root.now c.args.is_extensible c.args.additions.now
    (told_false c.is_none.ensures c.if-is_none.false) c.is_marked.ensures c.if-not-is_marked.false c.are_in_order.ensures c.if-not-are_in_order.false
    c.in_ok-is_distinct.ensures c.if-not-is_distinct.false c.in_ok-check_each.ensures.sound
