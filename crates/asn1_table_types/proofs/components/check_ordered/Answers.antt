use Rattle.std.proofs.lemmas.Bool.{or_left, or_right}
use Rattle.asn1_table_nodes.specs.Meaning.{type_at}
use Rattle.asn1_table_types.proofs.Refused.{raised}
use Rattle.asn1_table_types.proofs.TagLaws.{order_lacking, set_is}
use Rattle.asn1_table_types.proofs.components.check_ordered.Goals as goal

pub returns-in_err-check_table-clause-lacking : goal.returns-in_err-check_table-clause-lacking
returns-in_err-check_table-clause-lacking c = raised _ _ _ _ c.from_residual.ensures.1 (λ f h. or_left _ _ h) c.in_err-check_table.ensures.lacking

pub returns-then-not-are_in_order-clause-lacking : goal.returns-then-not-are_in_order-clause-lacking
returns-then-not-are_in_order-clause-lacking c =
    or_right _ _ (order_lacking (λ i. type_at c.args.nodes.now 1 i) c.args.root.now c.are_in_order.ensures c.if-not-are_in_order.true)

pub returns-clause-sound : goal.returns-clause-sound
returns-clause-sound c =
    set_is (λ i. type_at c.args.nodes.now 1 i) c.args.root.now c.args.is_extensible c.args.additions.now c.in_ok-check_table.ensures.sound c.are_in_order.ensures c.if-not-are_in_order.false
