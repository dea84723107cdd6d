use Rattle.std.proofs.Common.{refl}
use Rattle.asn1_schema_laws.specs.Records.{flag}
use Rattle.per_codec_encoder.proofs.Stepped.{adds_sound, adds_puts}
use Rattle.per_codec_rules.specs.Variants.{is_aligned}
use Rattle.per_codec_encoder.proofs.encoder.EncoderEncoder.encode_bool.Goals as goal

pub invariant_of-self-2 : goal.invariant_of-self-2
invariant_of-self-2 c _ = adds_sound (is_aligned c.self.inside.variant) (flag c.args.value) _ c.self.inside.frames c.self.inside.output
    c.push_boolean.new.output (λ s. refl) (c.self.invariant c.in_ok-begin_record.ensures.ok) c.in_ok-push_boolean.ensures

pub returns-clause-ok : goal.returns-clause-ok
returns-clause-ok c = adds_puts (is_aligned c.self.inside.variant) (flag c.args.value) _ c.self.inside.frames c.self.inside.output
    c.push_boolean.new.output c.self.inside.failed c.args.self.now (λ s. refl) c.self.view_is c.in_ok-begin_record.ensures.ok
    (c.self.invariant c.in_ok-begin_record.ensures.ok) c.in_ok-push_boolean.ensures
