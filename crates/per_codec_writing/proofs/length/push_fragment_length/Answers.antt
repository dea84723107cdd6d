use Rattle.per_codec_writing.proofs.LengthFieldLists.{adds_fragment}
use Rattle.per_codec_rules.specs.Variants.{is_aligned}
use Rattle.per_codec_writing.proofs.length.push_fragment_length.Goals as goal

pub returns : goal.returns
returns c = adds_fragment (is_aligned c.args.variant) c.args.multiple c.args.output.now c.push_padding.new.output c.push_bits.new.self c.requires
    c.in_ok-push_padding.ensures c.in_ok-push_bits.ensures.ok
