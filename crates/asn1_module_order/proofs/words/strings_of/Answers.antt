use Rattle.std.proofs.Common.{arith}
use Rattle.asn1_module_order.proofs.Texts.{all_copies, one_more_copy}
use Rattle.asn1_module_order.proofs.words.strings_of.Goals as goal

pub loop-text-preserved : goal.loop-text-preserved
loop-text-preserved c =
    one_more_copy c.args.texts.now c.loop-text.text-index c.loop-text.strings.items c.loop-text.invariant _ c.in_ok-string.string c.push.new.self.items
    (omega arith) c.in_ok-string.ensures.ok c.in_ok-push.ensures.items

pub returns : goal.returns
returns c = all_copies c.args.texts.now c.loop-text.text-index c.loop-text.strings.items c.loop-text.invariant (omega arith)
