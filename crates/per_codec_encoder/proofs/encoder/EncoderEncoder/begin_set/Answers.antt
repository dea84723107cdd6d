use Rattle.per_codec_encoder.proofs.Stepped.{as_set}
use Rattle.asn1_schema_laws.specs.Records.{set_begins}
use Rattle.per_codec_encoder.proofs.Stepped.{stays_sound, puts}
use Rattle.per_codec_rules.specs.Variants.{is_aligned}
use Rattle.per_codec_encoder.proofs.encoder.EncoderEncoder.begin_set.Goals as goal

pub invariant_of-self-2 : goal.invariant_of-self-2
invariant_of-self-2 c _ = stays_sound (is_aligned c.self.inside.variant) (set_begins c.args.extensible c.args.optional) c.self.inside.frames
    c.begin_components.new.frames c.self.inside.output c.begin_components.new.output (c.self.invariant c.in_ok-begin_record.ensures.ok)
    (as_set (is_aligned c.self.inside.variant) c.args.extensible c.args.optional _ _ _ _ (c.in_ok-begin_components.ensures (is_aligned c.self.inside.variant)))

pub returns-clause-ok : goal.returns-clause-ok
returns-clause-ok c = puts (is_aligned c.self.inside.variant) (set_begins c.args.extensible c.args.optional) c.self.inside.frames
    c.begin_components.new.frames c.self.inside.output c.begin_components.new.output c.self.inside.failed c.args.self.now c.self.view_is
    c.in_ok-begin_record.ensures.ok (c.self.invariant c.in_ok-begin_record.ensures.ok)
    (as_set (is_aligned c.self.inside.variant) c.args.extensible c.args.optional _ _ _ _ (c.in_ok-begin_components.ensures (is_aligned c.self.inside.variant)))
