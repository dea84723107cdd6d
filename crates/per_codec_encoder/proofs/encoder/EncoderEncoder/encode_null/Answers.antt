use Rattle.per_codec_encoder.proofs.Stepped.{made, nothing_added}
use Rattle.per_codec_rules.specs.Variants.{is_aligned}
use Rattle.per_codec_encoder.proofs.encoder.EncoderEncoder.encode_null.Goals as goal

pub returns-clause-ok : goal.returns-clause-ok
returns-clause-ok c = nothing_added (made c.self.inside.frames c.self.inside.output (is_aligned c.self.inside.variant) c.self.inside.failed) c.args.self.now c.self.view_is c.in_ok-go_on.ensures.ok
