use Rattle.std.proofs.Common.{arith}
use Rattle.per_codec_writing.proofs.LengthFieldLists.{adds_short, adds_long}
use Rattle.per_codec_rules.specs.Variants.{is_aligned}
use Rattle.per_codec_writing.proofs.length.push_short_length.Goals as goal

pub returns-in_ok-push_bits : goal.returns-in_ok-push_bits
returns-in_ok-push_bits c = adds_short (is_aligned c.args.variant) c.args.count c.args.output.now c.push_padding.new.output c.push_bits.new.self
    c.if-count-lt128.true c.in_ok-push_padding.ensures c.in_ok-push_bits.ensures.ok

pub returns-in_ok-push_bits-2 : goal.returns-in_ok-push_bits-2
returns-in_ok-push_bits-2 c = adds_long (is_aligned c.args.variant) c.args.count c.args.output.now c.push_padding.new.output
    c.push_bits-else-count-lt128.new.self (omega (arith, c.if-count-lt128.false)) c.requires c.in_ok-push_padding.ensures c.in_ok-push_bits-2.ensures.ok
