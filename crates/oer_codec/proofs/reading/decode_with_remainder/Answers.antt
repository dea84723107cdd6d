use Rattle.std.proofs.Common.{Err, ◌^◌, ◌-◌, length, ap, ◌∙◌, arith}
use Rattle.std.proofs.lemmas.List.{length-take}
use Rattle.asn1_schema_laws.proofs.Joined.{raised}
use Rattle.oer_codec.proofs.Messages.{left_within, told_from, none_told_from, not_failed}
use Rattle.oer_codec.proofs.reading.decode_with_remainder.Goals as goal

pub returns-in_err-value-clause-only : goal.returns-in_err-value-clause-only
returns-in_err-value-clause-only g c = raised _ _ _ c.from_residual.ensures.1
    (none_told_from c.args.rules g.T.Described.schema c.args.input.now c.new-decoder.result _ c.in_err-value.field-0.0
    (g.T.Described.typed.lawful 128) c.new-decoder.ensures c.in_err-value.ensures.only)

pub overflow_sub-taken : goal.overflow_sub-taken
overflow_sub-taken g c =
    let h = left_within g.T.Described.schema _ c.new-decoder.result c.decode.new.decoder c.in_ok-value.ensures.ok in
    rw c.remaining.ensures (rw c.remaining-looked_at.ensures h)

pub split_at-requires : goal.split_at-requires
split_at-requires g c =
    let l = ap length (c.remaining-looked_at.ensures ∙ ap (λ h. h.octets) c.new-decoder.ensures) in
    omega (arith, l, length-take (2 ^ 60 - 1) c.args.input.now)

pub returns-clause-ok : goal.returns-clause-ok
returns-clause-ok g c = rw c.split_at.ensures.back
    (rw c.remaining-looked_at.ensures
    (rw c.remaining.ensures (told_from c.args.rules g.T.Described.schema _ c.args.input.now c.new-decoder.result c.decode.new.decoder c.new-decoder.ensures c.in_ok-value.ensures.ok)))

pub returns-in_err-value-clause-fresh : goal.returns-in_err-value-clause-fresh
returns-in_err-value-clause-fresh g c = raised _ _ _ c.from_residual.ensures.1 (λ h. not_failed c.args.rules c.args.input.now c.new-decoder.ensures (c.in_err-value.ensures.call.after (ap Err h)))
