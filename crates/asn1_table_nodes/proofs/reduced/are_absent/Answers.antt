use Rattle.std.proofs.Common.{◌∙◌, sym, ap, arith}
use Rattle.asn1_model.specs.Value.{are_absent}
use Rattle.asn1_table_nodes.proofs.ReducedSteps.{one_there, none_there}
use Rattle.asn1_table_nodes.proofs.Values.{parts_end}
use Rattle.asn1_table_nodes.proofs.reduced.are_absent.Goals as goal

pub returns-then-is_some : goal.returns-then-is_some
returns-then-is_some c =
    sym (one_there c.args.parts.now c.loop-part.part-index c.part-item.result c.loop-part-test.true c.part-item.is (sym c.is_some.ensures ∙ c.if-is_some.true)) ∙ c.loop-part.invariant

pub loop-part-preserved : goal.loop-part-preserved
loop-part-preserved c =
    sym (none_there c.args.parts.now c.loop-part.part-index c.part-item.result c.loop-part-test.true c.part-item.is (sym c.is_some.ensures ∙ c.if-is_some.false)) ∙ c.loop-part.invariant

pub returns : goal.returns
returns c = sym (ap are_absent (parts_end c.args.parts.now c.loop-part.part-index (omega (arith, c.loop-part-test.false)))) ∙ c.loop-part.invariant
