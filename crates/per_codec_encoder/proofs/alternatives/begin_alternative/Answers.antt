use Rattle.std.proofs.Common.{refl}
use Rattle.per_codec_writing.proofs.HeadingFieldLists.{raised_on}
use Rattle.per_codec_encoder.proofs.Choosing.{does_root, does_added, cannot_choose}
use Rattle.per_codec_rules.specs.Variants.{is_aligned}
use Rattle.per_codec_encoder.proofs.alternatives.begin_alternative.Goals as goal

pub returns-in_err-push_index : goal.returns-in_err-push_index
returns-in_err-push_index c = raised_on _ _ _ c.from_residual.result c.from_residual.ensures.0 c.from_residual.ensures.1
    (λ ts us m. cannot_choose (is_aligned c.args.variant) c.args.frames.now c.args.output.now c.push_index.new.output c.args.roots c.args.extensible
    c.args.chosen.added c.args.chosen.place ts us m _ c.in_err-push_index.ensures)

pub returns-then-chosen : goal.returns-then-chosen
returns-then-chosen c = λ ts us m. does_added (is_aligned c.args.variant) c.args.frames.now c.args.output.now c.push_index.new.output c.args.roots
    c.args.extensible c.args.chosen.added c.args.chosen.place ts us m c.in_ok-push_index.ensures c.open_type.new.self c.push_index.new.output
    c.open_type.new.output c.if-chosen.true refl c.in_ok-open_type.ensures.bits c.in_ok-open_type.ensures.items

pub returns : goal.returns
returns c = λ ts us m. does_root (is_aligned c.args.variant) c.args.frames.now c.args.output.now c.push_index.new.output c.args.roots
    c.args.extensible c.args.chosen.added c.args.chosen.place ts us m c.in_ok-push_index.ensures c.open.new.self c.if-chosen.false c.in_ok-open.ensures.items
