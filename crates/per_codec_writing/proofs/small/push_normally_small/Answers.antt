use Rattle.std.proofs.Common.{arith}
use Rattle.per_codec_writing.proofs.NumberFieldLists.{adds_small, adds_not_small}
use Rattle.per_codec_rules.specs.Variants.{is_aligned}
use Rattle.per_codec_writing.proofs.small.push_normally_small.Goals as goal

pub returns-then-number-lt64 : goal.returns-then-number-lt64
returns-then-number-lt64 c = adds_small (is_aligned c.args.variant) c.args.number c.args.output.now c.push_bits.new.self c.if-number-lt64.true c.in_ok-push_bits.ensures.ok

pub returns : goal.returns
returns c = adds_not_small (is_aligned c.args.variant) c.args.number c.args.output.now c.push.new.self c.push_semi_constrained.new.output
    (omega (arith, c.if-number-lt64.false)) c.in_ok-push.ensures.ok c.in_ok-push_semi_constrained.ensures
