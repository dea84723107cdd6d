use Rattle.std.proofs.Common.{Err, ap}
use Rattle.asn1_schema_constraints.specs.Terms.{meant}
use Rattle.asn1_schema_laws.proofs.Joined.{raised}
use Rattle.per_codec.proofs.Messages.{told_from, none_told_from, none_finished_from, not_failed, begun_ready}
use Rattle.per_codec.proofs.reading.decode_with_constraints.Goals as goal

pub returns-in_err-value-clause-only : goal.returns-in_err-value-clause-only
returns-in_err-value-clause-only g c = raised _ _ _ c.from_residual.ensures.1
    (λ lawful. none_told_from c.args.rules (g.T.Described.under (meant c.args.constraints.now)) c.args.input.now c.new-decoder.result
    c.in_err-value.field-0.0 lawful c.new-decoder.ensures c.in_err-value.ensures.only)

pub returns-in_err-finish-clause-only : goal.returns-in_err-finish-clause-only
returns-in_err-finish-clause-only g c = raised _ _ _ c.from_residual-in_err-finish.ensures.1
    (λ lawful. none_finished_from c.args.rules (g.T.Described.under (meant c.args.constraints.now)) c.args.input.now _ c.new-decoder.result
    c.decode_with_constraints.new.decoder c.in_err-finish.field-0.0 lawful c.new-decoder.ensures c.in_ok-value.ensures.ok c.in_err-finish.ensures.only)

pub returns-clause-ok : goal.returns-clause-ok
returns-clause-ok g c = (
  _,
  told_from c.args.rules (g.T.Described.under (meant c.args.constraints.now)) _ c.args.input.now c.new-decoder.result
      c.decode_with_constraints.new.decoder c.finish.new.self.place c.new-decoder.ensures c.in_ok-value.ensures.ok c.in_ok-finish.ensures.ok.1,
)

pub returns-in_err-value-clause-fresh : goal.returns-in_err-value-clause-fresh
returns-in_err-value-clause-fresh g c = raised _ _ _ c.from_residual.ensures.1
    (λ q. begun_ready c.args.rules c.args.input.now c.new-decoder.result c.new-decoder.ensures (c.in_err-value.ensures.call.after (ap Err q)))

pub returns-in_err-finish-clause-fresh : goal.returns-in_err-finish-clause-fresh
returns-in_err-finish-clause-fresh g c = raised _ _ _ c.from_residual-in_err-finish.ensures.1
    (λ q. not_failed c.args.rules (g.T.Described.under (meant c.args.constraints.now)) c.args.input.now _ c.new-decoder.result
    c.decode_with_constraints.new.decoder c.new-decoder.ensures c.in_ok-value.ensures.ok (c.in_err-finish.ensures.call.after (ap Err q)))
