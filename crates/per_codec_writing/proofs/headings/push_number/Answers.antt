use Rattle.per_codec_writing.specs.Writing.{place}
use Rattle.per_codec_writing.proofs.Adding.{raised}
use Rattle.per_codec_writing.proofs.HeadingFieldLists.{count_added, count_none}
use Rattle.per_codec_rules.specs.Variants.{is_aligned}
use Rattle.per_codec_writing.proofs.headings.push_number.Goals as goal

pub returns-in_err-push_constrained : goal.returns-in_err-push_constrained
returns-in_err-push_constrained c = raised _ _ _ _ _ c.from_residual.ensures.1
    (count_none (is_aligned c.args.variant) c.args.low c.args.high c.args.count c.args.has_padding (place c.args.output.now)) c.in_err-push_constrained.ensures

pub returns-in_ok-push_padding : goal.returns-in_ok-push_padding
returns-in_ok-push_padding c = count_added (is_aligned c.args.variant) c.args.low c.args.high c.args.count c.args.has_padding c.args.output.now
    c.push_constrained.new.output c.push_padding.new.output c.if-has_padding.true c.in_ok-push_constrained.ensures c.in_ok-push_padding.ensures
