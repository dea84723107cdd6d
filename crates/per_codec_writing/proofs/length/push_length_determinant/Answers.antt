use Rattle.std.proofs.Common.{refl, arith}
use Rattle.per_codec_writing.proofs.HeadingFieldLists.{few_heads}
use Rattle.per_codec_rules.specs.Variants.{is_aligned}
use Rattle.per_codec_writing.proofs.length.push_length_determinant.Goals as goal

pub returns-then-count-lt-FRAGMENT-clause-heads : goal.returns-then-count-lt-FRAGMENT-clause-heads
returns-then-count-lt-FRAGMENT-clause-heads c = few_heads (is_aligned c.args.variant) c.args.count _ c.args.output.now c.push_short_length.new.output
    (omega arith) refl c.in_ok-push_short_length.ensures
