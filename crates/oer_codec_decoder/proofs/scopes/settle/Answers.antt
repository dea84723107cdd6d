use Rattle.std.proofs.Common.{sym, ◌∙◌, arith}
use Rattle.oer_codec_decoder.proofs.Counting.{list_with_due, none_with_due}
use Rattle.oer_codec_decoder.proofs.scopes.settle.Goals as goal

pub returns-then-due-gt0-clause-given : goal.returns-then-due-gt0-clause-given
returns-then-due-gt0-clause-given c =
    let l = c.requires c.if-due-gt0.true in
    c.set_due.ensures 0 l.0 l.1 ∙ sym (list_with_due c.args.due.now c.args.nested.now l.0 l.1)

pub returns-else-due-gt0-clause-given : goal.returns-else-due-gt0-clause-given
returns-else-due-gt0-clause-given c = sym (none_with_due c.args.due.now c.args.nested.now (omega (arith, c.if-due-gt0.false)))
