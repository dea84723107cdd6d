use Rattle.std.proofs.Common.{Err, ℕ, ◌≤◌, ◌/◌, length, drop, ap, sym, subst}
use Rattle.asn1_model.specs.Schema.{Schema}
use Rattle.asn1_table_nodes.specs.Meaning.{type_at}
use Rattle.asn1_table_tape.specs.Records.{records_of}
use Rattle.asn1_table_walker.specs.Fronts.{TellsOnto}
use Rattle.asn1_table_walker.proofs.Told.{none_at}
use Rattle.per_codec.specs.Messages.{rules_of}
use Rattle.per_codec.proofs.Messages.{left_within, none_told_from, none_finished_from, none_with_fewer, more_needed_from, not_failed, begun_ready}
use Rattle.asn1_table_relay.proofs.FoundInBits.{told_onto}
use Rattle.asn1_table_relay.proofs.per.decode_per.Goals as goal

pub returns-in-Err-clause-only : goal.returns-in-Err-clause-only
returns-in-Err-clause-only c =
    let schema : ℕ → Schema = λ n. type_at c.args.types.now.nodes.items n c.args.place in
    none_at schema (none_told_from c.args.rules schema c.args.input.now c.new-decoder.result c.in-Err.error
    (c.args.types.now.lawful 128 c.args.place) c.new-decoder.ensures c.in-Err.ensures.only)

pub returns-in-Err-finish-clause-only : goal.returns-in-Err-finish-clause-only
returns-in-Err-finish-clause-only c =
    let schema : ℕ → Schema = λ n. type_at c.args.types.now.nodes.items n c.args.place in
    none_at schema (none_finished_from c.args.rules schema c.args.input.now _ c.new-decoder.result c.read_onto.new.decoder c.in-Err-finish.error
    (c.args.types.now.lawful 128 c.args.place) c.new-decoder.ensures c.in-Ok.ensures.ok.reads c.in-Err-finish.ensures.only)

pub returns-in-Err-clause-needed : goal.returns-in-Err-clause-needed
returns-in-Err-clause-needed c =
    let schema : ℕ → Schema = λ n. type_at c.args.types.now.nodes.items n c.args.place in
    let m = more_needed_from c.args.rules schema c.args.input.now c.new-decoder.result c.read_onto.new.decoder c.needed-needed.result c.in-Err.error
    (c.args.types.now.lawful 128 c.args.place) c.new-decoder.ensures c.needed-needed.ensures c.in-Err.ensures.only in
    (λ more l. none_at schema (m more l))

pub returns-in-Err-finish-clause-needed : goal.returns-in-Err-finish-clause-needed
returns-in-Err-finish-clause-needed c =
    let schema : ℕ → Schema = λ n. type_at c.args.types.now.nodes.items n c.args.place in
    let m = none_with_fewer c.args.rules schema c.args.input.now c.in-Err-finish.error
    (none_finished_from c.args.rules schema c.args.input.now _ c.new-decoder.result c.read_onto.new.decoder c.in-Err-finish.error
    (c.args.types.now.lawful 128 c.args.place) c.new-decoder.ensures c.in-Ok.ensures.ok.reads c.in-Err-finish.ensures.only) in
    (λ more l. none_at schema (m more l))

pub returns-in-Err-clause-fresh : goal.returns-in-Err-clause-fresh
returns-in-Err-clause-fresh c = (λ q. begun_ready c.args.rules c.args.input.now c.new-decoder.result c.new-decoder.ensures (c.in-Err.ensures.call.after (ap Err q)))

pub returns-in-Err-finish-clause-fresh : goal.returns-in-Err-finish-clause-fresh
returns-in-Err-finish-clause-fresh c =
    let schema : ℕ → Schema = λ n. type_at c.args.types.now.nodes.items n c.args.place in
    (λ q. not_failed c.args.rules schema c.args.input.now _ c.new-decoder.result c.read_onto.new.decoder c.new-decoder.ensures c.in-Ok.ensures.ok.reads
    (c.in-Err-finish.ensures.call.after (ap Err q)))

pub split_at-requires : goal.split_at-requires
split_at-requires c =
    let schema : ℕ → Schema = λ n. type_at c.args.types.now.nodes.items n c.args.place in
    subst (λ n. n / 8 ≤ length c.args.input.now) (sym c.position-taken.ensures)
    (left_within c.args.rules schema _ c.args.input.now c.new-decoder.result c.read_onto.new.decoder c.finish.new.self.place c.new-decoder.ensures c.in-Ok.ensures.ok.reads
    c.in-Ok-finish.ensures.ok.1)

pub returns-clause-ok : goal.returns-clause-ok
returns-clause-ok c =
    let ns = c.args.types.now.nodes.items in
    let s = type_at ns 128 c.args.place in
    let rs = records_of ns c.read_onto.new.tape.items in
    rw c.split_at.ensures.back (subst (λ n. TellsOnto (rules_of c.args.rules) s rs c.args.input.now (drop (n / 8) c.args.input.now))
    (sym c.position-taken.ensures)
    (told_onto c.args.rules (λ n. type_at ns n c.args.place) c.args.input.now c.new-decoder.result c.read_onto.new.decoder c.finish.new.self.place _ rs
    (c.args.types.now.lawful 128 c.args.place) c.new-decoder.ensures (ap (λ es. records_of ns es) c.new-tape.ensures.items) c.in-Ok.ensures.ok c.in-Ok-finish.ensures.ok.1))
