use Rattle.std.proofs.Common.{arith}
use Rattle.per_codec_packing.proofs.Whole.{one_whole, all_whole}
use Rattle.per_codec_packing.proofs.field_list_view.are_whole.Goals as goal

pub loop-padding-preserved : goal.loop-padding-preserved
loop-padding-preserved c = λ w. c.loop-padding.invariant (one_whole c.args.paddings.now c.loop-padding.padding-index c.loop-padding-test.true (omega (arith, c.if-padding-gt0.false)) w)

pub returns : goal.returns
returns c = λ t. c.loop-padding.invariant (all_whole c.args.paddings.now c.loop-padding.padding-index (omega (arith, c.loop-padding-test.false)))
