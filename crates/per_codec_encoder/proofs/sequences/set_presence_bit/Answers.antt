use Rattle.std.proofs.Common.{refl, reverse}
use Rattle.per_codec_encoder.proofs.Innermost.{innermost_is}
use Rattle.per_codec_encoder.proofs.Opening.{does_presence_bit, bit_within}
use Rattle.per_codec_encoder.proofs.sequences.set_presence_bit.Goals as goal

pub set-requires : goal.set-requires
set-requires c =
    let x = c.in-Components in
    let i = c.others.inside in
    let a = innermost_is _ i.outer.items i.innermost c.in-Some.innermost c.others.view_is c.in-Some.is in
    (bit_within c.args.others.now (reverse i.outer.items) c.in-Some.innermost x.extensible x.due x.given x.start c.args.output.now a x.is c.if-due-eq0.false c.from.result c.requires c.from.ensures).0

pub returns : goal.returns
returns c =
    let x = c.in-Components in
    let i = c.others.inside in
    let a = innermost_is _ i.outer.items i.innermost c.in-Some.innermost c.others.view_is c.in-Some.is in
    does_presence_bit c.args.others.now (reverse i.outer.items) c.in-Some.innermost x.extensible x.due x.given x.start c.args.output.now a x.is
    c.if-due-eq0.false _ c.set.new.self c.from.result _ c.args.present refl c.from.ensures refl c.set.ensures
