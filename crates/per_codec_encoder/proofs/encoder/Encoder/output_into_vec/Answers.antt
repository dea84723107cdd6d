use Rattle.per_codec_encoder.proofs.Stepped.{taken_out, none_taken_out}
use Rattle.per_codec_rules.specs.Variants.{is_aligned}
use Rattle.per_codec_encoder.proofs.encoder.Encoder.output_into_vec.Goals as goal

pub returns-clause-octets : goal.returns-clause-octets
returns-clause-octets c =
    let bits = c.into_bits.result in
    taken_out c.self.inside.frames c.self.inside.output bits (is_aligned c.self.inside.variant) c.self.inside.failed c.args.self c.message.result
    c.self.view_is c.self.invariant c.into_bits.ensures.placed c.message.ensures

pub returns-clause-bare : goal.returns-clause-bare
returns-clause-bare c =
    let bits = c.into_bits.result in
    none_taken_out c.self.inside.frames c.self.inside.output bits (is_aligned c.self.inside.variant) c.self.inside.failed c.args.self c.message.result
    c.self.view_is c.self.invariant c.into_bits.ensures.placed c.message.ensures
