use Rattle.per_codec_writing.proofs.Fragments.{adds_octets, all_octets}
use Rattle.per_codec_rules.specs.Variants.{is_aligned}
use Rattle.per_codec_writing.proofs.counted.push_counted_octets.Goals as goal

pub returns : goal.returns
returns c = adds_octets (is_aligned c.args.variant) c.args.octets.now c.args.output.now c.push_counted.new.output (all_octets c.args.octets.now c.type_inv.octets) c.in_ok-push_counted.ensures
