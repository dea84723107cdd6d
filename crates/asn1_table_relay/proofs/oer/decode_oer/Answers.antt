use Rattle.std.proofs.Common.{Err, ℕ, ◌^◌, ◌-◌, length, ap, ◌∙◌, arith}
use Rattle.std.proofs.lemmas.List.{length-take}
use Rattle.asn1_model.specs.Schema.{Schema}
use Rattle.asn1_table_nodes.specs.Meaning.{type_at}
use Rattle.asn1_table_tape.specs.Records.{records_of}
use Rattle.oer_codec.proofs.Messages.{left_within, none_told_from, more_needed_from, not_failed}
use Rattle.asn1_table_walker.proofs.Told.{none_at}
use Rattle.asn1_table_relay.proofs.FoundInOctets.{told_onto}
use Rattle.asn1_table_relay.proofs.oer.decode_oer.Goals as goal

pub returns-clause-only : goal.returns-clause-only
returns-clause-only c =
    let schema : ℕ → Schema = λ n. type_at c.args.types.now.nodes.items n c.args.place in
    none_at schema (none_told_from c.args.rules schema c.args.input.now c.new-decoder.result _ c.in-Err.error
    (c.args.types.now.lawful 128 c.args.place) c.new-decoder.ensures c.in-Err.ensures.only)

pub returns-clause-needed : goal.returns-clause-needed
returns-clause-needed c =
    let schema : ℕ → Schema = λ n. type_at c.args.types.now.nodes.items n c.args.place in
    let m = more_needed_from c.args.rules schema c.args.input.now c.new-decoder.result _ _ c.in-Err.error (c.args.types.now.lawful 128 c.args.place)
    c.new-decoder.ensures c.needed-needed.ensures c.in-Err.ensures.only in
    (λ more l. none_at schema (m more l))

pub overflow_sub-taken : goal.overflow_sub-taken
overflow_sub-taken c =
    let h = left_within (λ n. type_at c.args.types.now.nodes.items n c.args.place) _ c.new-decoder.result c.read_onto.new.decoder c.in-Ok.ensures.ok.reads in
    rw c.remaining.ensures (rw c.remaining-looked_at.ensures h)

pub split_at-requires : goal.split_at-requires
split_at-requires c =
    let l = ap length (c.remaining-looked_at.ensures ∙ ap (λ h. h.octets) c.new-decoder.ensures) in
    omega (arith, l, length-take (2 ^ 60 - 1) c.args.input.now)

pub returns-in-Ok-clause-ok : goal.returns-in-Ok-clause-ok
returns-in-Ok-clause-ok c = rw c.split_at.ensures.back (rw c.remaining-looked_at.ensures (rw c.remaining.ensures (told_onto c.args.rules
    (λ n. type_at c.args.types.now.nodes.items n c.args.place) c.args.input.now c.new-decoder.result c.read_onto.new.decoder _
    (records_of c.args.types.now.nodes.items c.read_onto.new.tape.items) (c.args.types.now.lawful 128 c.args.place) c.new-decoder.ensures
    (ap (λ es. records_of c.args.types.now.nodes.items es) c.new-tape.ensures.items) c.in-Ok.ensures.ok)))

pub returns-clause-fresh : goal.returns-clause-fresh
returns-clause-fresh c = λ h. not_failed c.args.rules c.args.input.now c.new-decoder.ensures (c.in-Err.ensures.call.after (ap Err h))
