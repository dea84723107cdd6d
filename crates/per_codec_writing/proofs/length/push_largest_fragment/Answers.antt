use Rattle.std.proofs.Common.{refl, arith}
use Rattle.per_codec_writing.proofs.HeadingFieldLists.{fragment_heads}
use Rattle.per_codec_rules.specs.Variants.{is_aligned}
use Rattle.per_codec_writing.proofs.length.push_largest_fragment.Goals as goal

pub returns-clause-heads : goal.returns-clause-heads
returns-clause-heads c = fragment_heads (is_aligned c.args.variant) c.args.count c.min-multiple.result _ c.args.output.now
    c.push_fragment_length.new.output (omega arith) c.min-multiple.ensures refl c.in_ok-push_fragment_length.ensures
