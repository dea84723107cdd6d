use Rattle.std.proofs.Common.{Err, ◌≤◌, ◌/◌, length, drop, ap, sym, subst}
use Rattle.asn1_schema_decode.specs.Messages.{Tells}
use Rattle.per_codec.specs.Messages.{rules_of}
use Rattle.per_codec.proofs.Messages.{left_within, told_from, none_told_from, none_finished_from, none_with_fewer, more_needed_from, not_failed, begun_ready}
use Rattle.per_codec.proofs.reading.decode_or_need.Goals as goal

pub returns-in-Err-clause-only : goal.returns-in-Err-clause-only
returns-in-Err-clause-only g c =
    (none_told_from c.args.rules g.T.Described.schema c.args.input.now c.new-decoder.result c.in-Err.error (g.T.Described.typed.lawful 128) c.new-decoder.ensures c.in-Err.ensures.only)

pub returns-in-Err-finish-clause-only : goal.returns-in-Err-finish-clause-only
returns-in-Err-finish-clause-only g c =
    (none_finished_from c.args.rules g.T.Described.schema c.args.input.now _ c.new-decoder.result c.decode.new.decoder c.in-Err-finish.error
    (g.T.Described.typed.lawful 128) c.new-decoder.ensures c.in-Ok.ensures.ok c.in-Err-finish.ensures.only)

pub split_at-requires : goal.split_at-requires
split_at-requires g c =
    subst (λ n. n / 8 ≤ length c.args.input.now) (sym c.position-taken.ensures)
    (left_within c.args.rules g.T.Described.schema _ c.args.input.now c.new-decoder.result c.decode.new.decoder c.finish.new.self.place
    c.new-decoder.ensures c.in-Ok.ensures.ok c.in-Ok-finish.ensures.ok.1)

pub returns-clause-ok : goal.returns-clause-ok
returns-clause-ok g c =
    let told = told_from c.args.rules g.T.Described.schema _ c.args.input.now c.new-decoder.result c.decode.new.decoder c.finish.new.self.place
    c.new-decoder.ensures c.in-Ok.ensures.ok c.in-Ok-finish.ensures.ok.1 in
    rw c.split_at.ensures.back
    (subst (λ n. Tells (rules_of c.args.rules) g.T.Described.schema (g.T.Described.meaning c.in-Ok.value) c.args.input.now (drop (n / 8) c.args.input.now)) (sym c.position-taken.ensures) told)

pub returns-in-Err-clause-fresh : goal.returns-in-Err-clause-fresh
returns-in-Err-clause-fresh g c = (λ q. begun_ready c.args.rules c.args.input.now c.new-decoder.result c.new-decoder.ensures (c.in-Err.ensures.call.after (ap Err q)))

pub returns-in-Err-finish-clause-fresh : goal.returns-in-Err-finish-clause-fresh
returns-in-Err-finish-clause-fresh g c =
    (λ q. not_failed c.args.rules g.T.Described.schema c.args.input.now _ c.new-decoder.result c.decode.new.decoder c.new-decoder.ensures
    c.in-Ok.ensures.ok (c.in-Err-finish.ensures.call.after (ap Err q)))

pub returns-in-Err-clause-needed : goal.returns-in-Err-clause-needed
returns-in-Err-clause-needed g c = more_needed_from c.args.rules g.T.Described.schema c.args.input.now c.new-decoder.result c.decode.new.decoder
    c.needed-needed.result c.in-Err.error (g.T.Described.typed.lawful 128) c.new-decoder.ensures c.needed-needed.ensures c.in-Err.ensures.only

pub returns-in-Err-finish-clause-needed : goal.returns-in-Err-finish-clause-needed
returns-in-Err-finish-clause-needed g c = none_with_fewer c.args.rules g.T.Described.schema c.args.input.now c.in-Err-finish.error
    (none_finished_from c.args.rules g.T.Described.schema c.args.input.now _ c.new-decoder.result c.decode.new.decoder c.in-Err-finish.error
    (g.T.Described.typed.lawful 128) c.new-decoder.ensures c.in-Ok.ensures.ok c.in-Err-finish.ensures.only)
