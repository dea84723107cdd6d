use Rattle.asn1_schema_laws.proofs.Joined.{raised}
use Rattle.asn1_schema_laws.specs.Records.{ends}
use Rattle.per_codec_encoder.proofs.Stepped.{stays_sound, puts, is_refused}
use Rattle.per_codec_rules.specs.Variants.{is_aligned}
use Rattle.per_codec_encoder.proofs.encoder.EncoderEncoder.end.Goals as goal

pub invariant_of-self-2 : goal.invariant_of-self-2
invariant_of-self-2 c _ = stays_sound (is_aligned c.self.inside.variant) ends c.self.inside.frames c.end_scope.new.frames c.self.inside.output
    c.end_scope.new.output (c.self.invariant c.in_ok-begin_record.ensures.ok) c.in_ok-end_scope.ensures

pub returns-clause-ok : goal.returns-clause-ok
returns-clause-ok c = puts (is_aligned c.self.inside.variant) ends c.self.inside.frames c.end_scope.new.frames c.self.inside.output
    c.end_scope.new.output c.self.inside.failed c.args.self.now c.self.view_is c.in_ok-begin_record.ensures.ok (c.self.invariant c.in_ok-begin_record.ensures.ok) c.in_ok-end_scope.ensures

pub returns-in_err-end_scope-clause-only : goal.returns-in_err-end_scope-clause-only
returns-in_err-end_scope-clause-only c = raised _ _ _ c.from_residual-in_err-end_scope.ensures.1
    (is_refused (is_aligned c.self.inside.variant) ends c.self.inside.frames c.self.inside.output c.self.inside.failed c.args.self.now _
    c.self.view_is (c.self.invariant c.in_ok-begin_record.ensures.ok) c.in_err-end_scope.ensures)
