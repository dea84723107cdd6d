use Rattle.std.proofs.Common.{Err, ap}
use Rattle.asn1_schema_laws.proofs.Joined.{raised}
use Rattle.asn1_schema_constraints.specs.Terms.{meant}
use Rattle.oer_codec.proofs.Messages.{told_from, none_told_from, not_failed}
use Rattle.oer_codec.proofs.reading.decode_with_constraints.Goals as goal

pub returns-in_err-value-clause-only : goal.returns-in_err-value-clause-only
returns-in_err-value-clause-only g c = raised _ _ _ c.from_residual.ensures.1
    (λ lawful. none_told_from c.args.rules (g.T.Described.under (meant c.args.constraints.now)) c.args.input.now c.new-decoder.result _
    c.in_err-value.field-0.0 lawful c.new-decoder.ensures c.in_err-value.ensures.only)

pub returns-clause-ok : goal.returns-clause-ok
returns-clause-ok g c = (
  _,
  told_from c.args.rules (g.T.Described.under (meant c.args.constraints.now)) _ c.args.input.now c.new-decoder.result
      c.decode_with_constraints.new.decoder c.new-decoder.ensures c.in_ok-value.ensures.ok,
)

pub returns-in_err-value-clause-fresh : goal.returns-in_err-value-clause-fresh
returns-in_err-value-clause-fresh g c = raised _ _ _ c.from_residual.ensures.1 (λ h. not_failed c.args.rules c.args.input.now c.new-decoder.ensures (c.in_err-value.ensures.call.after (ap Err h)))
