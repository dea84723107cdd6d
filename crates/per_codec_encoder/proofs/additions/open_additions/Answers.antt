use Rattle.std.proofs.Common.{reverse, arith, refl}
use Rattle.per_codec_encoder.proofs.Added.{does_begin_additions}
use Rattle.per_codec_encoder.proofs.Innermost.{innermost_is}
use Rattle.per_codec_encoder.proofs.additions.open_additions.Goals as goal

pub returns : goal.returns
returns c =
    let x = c.in-Components in
    let i = c.others.inside in
    let a = innermost_is _ i.outer.items i.innermost c.in-Some.innermost c.others.view_is c.in-Some.is in
    does_begin_additions c.args.others.now (reverse i.outer.items) c.in-Some.innermost x.extensible x.due x.given x.start c.args.output.now a x.is _
    c.end_of.result c.args.count c.in_ok-slots.slots c.if-not-extensible.false (omega (arith, c.if-due-gt0.false)) c.end_of.ensures.bits c.end_of.ensures.all c.in_ok-slots.ensures refl
