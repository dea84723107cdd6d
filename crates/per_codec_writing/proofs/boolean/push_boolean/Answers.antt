use Rattle.per_codec_writing.proofs.NumberFieldLists.{adds_truth}
use Rattle.per_codec_rules.specs.Variants.{is_aligned}
use Rattle.per_codec_writing.proofs.boolean.push_boolean.Goals as goal

pub returns : goal.returns
returns c = adds_truth (is_aligned c.args.variant) c.args.value c.args.output.now c.push.new.self c.in_ok-push.ensures.ok
