use Rattle.std.proofs.lemmas.Result.{err_from_is_err_and}
use Rattle.asn1_schema_laws.specs.Records.{further}
use Rattle.per_codec_encoder.proofs.Stepped.{stays_sound, puts, is_refused}
use Rattle.per_codec_rules.specs.Variants.{is_aligned}
use Rattle.per_codec_encoder.proofs.encoder.EncoderEncoder.encode_further.Goals as goal

pub invariant_of-self-2 : goal.invariant_of-self-2
invariant_of-self-2 c _ = stays_sound (is_aligned c.self.inside.variant) _ c.self.inside.frames c.encode_further.new.self c.self.inside.output
    c.encode_further.new.output (c.self.invariant c.in_ok-begin_record.ensures.ok) c.in_ok-encode_further.ensures

pub returns-clause-ok : goal.returns-clause-ok
returns-clause-ok c = puts (is_aligned c.self.inside.variant) _ c.self.inside.frames c.encode_further.new.self c.self.inside.output
    c.encode_further.new.output c.self.inside.failed c.args.self.now c.self.view_is c.in_ok-begin_record.ensures.ok (c.self.invariant c.in_ok-begin_record.ensures.ok) c.in_ok-encode_further.ensures

pub returns-in_err-encode_further-clause-only : goal.returns-in_err-encode_further-clause-only
returns-in_err-encode_further-clause-only c =
    let p = err_from_is_err_and c.from_residual-in_err-encode_further.result c.from_residual-in_err-encode_further.ensures.1 in
    rw (p.1, p.2) (is_refused (is_aligned c.self.inside.variant) (further c.args.more) c.self.inside.frames c.self.inside.output c.self.inside.failed
    c.args.self.now _ c.self.view_is (c.self.invariant c.in_ok-begin_record.ensures.ok) c.in_err-encode_further.ensures)
