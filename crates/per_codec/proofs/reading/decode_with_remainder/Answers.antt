use Rattle.std.proofs.Common.{Err, ◌≤◌, ◌/◌, length, drop, ap, sym, subst}
use Rattle.asn1_schema_decode.specs.Messages.{Tells}
use Rattle.asn1_schema_laws.proofs.Joined.{raised}
use Rattle.per_codec.specs.Messages.{rules_of}
use Rattle.per_codec.proofs.Messages.{left_within, told_from, none_told_from, none_finished_from, not_failed, begun_ready}
use Rattle.per_codec.proofs.reading.decode_with_remainder.Goals as goal

pub returns-in_err-value-clause-only : goal.returns-in_err-value-clause-only
returns-in_err-value-clause-only g c = raised _ _ _ c.from_residual.ensures.1
    (none_told_from c.args.rules g.T.Described.schema c.args.input.now c.new-decoder.result c.in_err-value.field-0.0 (g.T.Described.typed.lawful 128) c.new-decoder.ensures c.in_err-value.ensures.only)

pub returns-in_err-finish-clause-only : goal.returns-in_err-finish-clause-only
returns-in_err-finish-clause-only g c = raised _ _ _ c.from_residual-in_err-finish.ensures.1
    (none_finished_from c.args.rules g.T.Described.schema c.args.input.now _ c.new-decoder.result c.decode.new.decoder c.in_err-finish.field-0.0
    (g.T.Described.typed.lawful 128) c.new-decoder.ensures c.in_ok-value.ensures.ok c.in_err-finish.ensures.only)

pub split_at-requires : goal.split_at-requires
split_at-requires g c =
    subst (λ n. n / 8 ≤ length c.args.input.now) (sym c.position-taken.ensures)
    (left_within c.args.rules g.T.Described.schema _ c.args.input.now c.new-decoder.result c.decode.new.decoder c.finish.new.self.place
    c.new-decoder.ensures c.in_ok-value.ensures.ok c.in_ok-finish.ensures.ok.1)

pub returns-clause-ok : goal.returns-clause-ok
returns-clause-ok g c =
    let told = told_from c.args.rules g.T.Described.schema _ c.args.input.now c.new-decoder.result c.decode.new.decoder c.finish.new.self.place
    c.new-decoder.ensures c.in_ok-value.ensures.ok c.in_ok-finish.ensures.ok.1 in
    rw c.split_at.ensures.back
    (subst (λ n. Tells (rules_of c.args.rules) g.T.Described.schema (g.T.Described.meaning c.in_ok-value.value) c.args.input.now
    (drop (n / 8) c.args.input.now)) (sym c.position-taken.ensures) told)

pub returns-in_err-value-clause-fresh : goal.returns-in_err-value-clause-fresh
returns-in_err-value-clause-fresh g c = raised _ _ _ c.from_residual.ensures.1
    (λ q. begun_ready c.args.rules c.args.input.now c.new-decoder.result c.new-decoder.ensures (c.in_err-value.ensures.call.after (ap Err q)))

pub returns-in_err-finish-clause-fresh : goal.returns-in_err-finish-clause-fresh
returns-in_err-finish-clause-fresh g c = raised _ _ _ c.from_residual-in_err-finish.ensures.1
    (λ q. not_failed c.args.rules g.T.Described.schema c.args.input.now _ c.new-decoder.result c.decode.new.decoder c.new-decoder.ensures
    c.in_ok-value.ensures.ok (c.in_err-finish.ensures.call.after (ap Err q)))
