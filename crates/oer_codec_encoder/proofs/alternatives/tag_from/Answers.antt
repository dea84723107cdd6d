use Rattle.std.proofs.Common.{sym, arith}
use Rattle.oer_codec_encoder.proofs.AlternativeScopes.{tag_there, tag_behind}
use Rattle.oer_codec_encoder.proofs.alternatives.tag_from.Goals as goal

pub returns-then-place-tags : goal.returns-then-place-tags
returns-then-place-tags c = sym (tag_behind c.args.tags.now c.args.place (omega (arith, c.if-place-tags.true)))

pub returns : goal.returns
returns c = sym (tag_there c.args.tags.now c.args.place _ (omega (arith, c.if-place-tags.false)))
