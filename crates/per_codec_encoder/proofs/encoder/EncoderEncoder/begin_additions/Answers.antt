use Rattle.std.proofs.Common.{rules}
use Rattle.asn1_schema_laws.proofs.Joined.{raised}
use Rattle.asn1_schema_laws.specs.Records.{additions_begin}
use Rattle.per_codec_encoder.proofs.Stepped.{stays_sound, puts, is_refused, never_after}
use Rattle.per_codec_rules.specs.Variants.{is_aligned}
use Rattle.per_codec_encoder.proofs.encoder.EncoderEncoder.begin_additions.Goals as goal

pub invariant_of-self-2 : goal.invariant_of-self-2
invariant_of-self-2 c _ = stays_sound (is_aligned c.self.inside.variant) (additions_begin c.args.count) c.self.inside.frames
    c.begin_additions.new.self c.self.inside.output c.self.inside.output (c.self.invariant c.in_ok-begin_record.ensures.ok) (c.in_ok-begin_additions.ensures (is_aligned c.self.inside.variant))

pub returns-clause-ok : goal.returns-clause-ok
returns-clause-ok c = puts (is_aligned c.self.inside.variant) (additions_begin c.args.count) c.self.inside.frames c.begin_additions.new.self
    c.self.inside.output c.self.inside.output c.self.inside.failed c.args.self.now c.self.view_is c.in_ok-begin_record.ensures.ok
    (c.self.invariant c.in_ok-begin_record.ensures.ok) (c.in_ok-begin_additions.ensures (is_aligned c.self.inside.variant))

pub returns-in_err-begin_additions-clause-only : goal.returns-in_err-begin_additions-clause-only
returns-in_err-begin_additions-clause-only c = raised _ _ _ c.from_residual-in_err-begin_additions.ensures.1
    (is_refused (is_aligned c.self.inside.variant) (additions_begin c.args.count) c.self.inside.frames c.self.inside.output c.self.inside.failed
    c.args.self.now _ c.self.view_is (c.self.invariant c.in_ok-begin_record.ensures.ok) (c.in_err-begin_additions.ensures (is_aligned c.self.inside.variant)))

pub returns-in_err-begin_additions-clause-call : goal.returns-in_err-begin_additions-clause-call
returns-in_err-begin_additions-clause-call c =
    record {
      failed = search rules;
      front = search rules;
      already = search rules;
      after =
          never_after (is_aligned c.self.inside.variant) (additions_begin c.args.count) c.self.inside.frames c.self.inside.output _
          c.from_residual-in_err-begin_additions.result c.from_residual-in_err-begin_additions.ensures.1 (c.in_err-begin_additions.ensures (is_aligned c.self.inside.variant));
    }
