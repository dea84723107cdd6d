use Rattle.std.proofs.Common.{Err, ◌^◌, ◌-◌, length, ap, ◌∙◌, arith}
use Rattle.std.proofs.lemmas.List.{length-take}
use Rattle.oer_codec.proofs.Messages.{left_within, told_from, none_told_from, more_needed_from, not_failed}
use Rattle.oer_codec.proofs.reading.decode_or_need.Goals as goal

pub returns-clause-only : goal.returns-clause-only
returns-clause-only g c = none_told_from c.args.rules g.T.Described.schema c.args.input.now c.new-decoder.result _ c.in-Err.error
    (g.T.Described.typed.lawful 128) c.new-decoder.ensures c.in-Err.ensures.only

pub returns-clause-needed : goal.returns-clause-needed
returns-clause-needed g c = more_needed_from c.args.rules g.T.Described.schema c.args.input.now c.new-decoder.result _ _ c.in-Err.error
    (g.T.Described.typed.lawful 128) c.new-decoder.ensures c.needed-needed.ensures c.in-Err.ensures.only

pub returns-clause-fresh : goal.returns-clause-fresh
returns-clause-fresh g c = λ h. not_failed c.args.rules c.args.input.now c.new-decoder.ensures (c.in-Err.ensures.call.after (ap Err h))

pub overflow_sub-taken : goal.overflow_sub-taken
overflow_sub-taken g c =
    let h = left_within g.T.Described.schema _ c.new-decoder.result c.decode.new.decoder c.in-Ok.ensures.ok in
    rw c.remaining.ensures (rw c.remaining-looked_at.ensures h)

pub split_at-requires : goal.split_at-requires
split_at-requires g c =
    let l = ap length (c.remaining-looked_at.ensures ∙ ap (λ h. h.octets) c.new-decoder.ensures) in
    omega (arith, l, length-take (2 ^ 60 - 1) c.args.input.now)

pub returns-in-Ok-clause-ok : goal.returns-in-Ok-clause-ok
returns-in-Ok-clause-ok g c =
    rw c.split_at.ensures.back
    (rw c.remaining-looked_at.ensures
    (rw c.remaining.ensures (told_from c.args.rules g.T.Described.schema _ c.args.input.now c.new-decoder.result c.decode.new.decoder c.new-decoder.ensures c.in-Ok.ensures.ok)))
