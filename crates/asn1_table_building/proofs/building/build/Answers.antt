use Rattle.std.proofs.Common.{◌≡◌, ◌∙◌, refl, sym, ap, ℕ, map, length, not, arith}
use Rattle.std.specs.Prelude.{position}
use Rattle.asn1_model.specs.Schema.{Schema}
use Rattle.asn1_schema_records.specs.Kept.{record_of as item_record_of}
use Rattle.asn1_table_nodes.specs.Meaning.{type_at}
use Rattle.asn1_table_tape.specs.Records.{record_of, records_of}
use Rattle.asn1_table_building.specs.Admitted.{is_admitted}
use Rattle.asn1_table_building.proofs.ReadAgain.{begun_by, unread, surplus, outside, built, none_outside, some_outside}
use Rattle.asn1_table_building.proofs.building.build.Goals as goal

pub returns-in-Err-clause-only : goal.returns-in-Err-clause-only
returns-in-Err-clause-only c =
    let ns = c.args.types.now.nodes.items in
    let schema : ℕ → Schema = λ n. type_at ns n c.args.place in
    let d = begun_by ns c.args.events.now (map item_record_of c.in-Some.items.items) c.new-decoder.result c.new-decoder.ensures c.in-Some.ensures in
    unread schema ns c.args.events.now d c.in-Err.ensures.only c.refused.result c.refused.ensures.memory

pub returns-then-len-events-clause-only : goal.returns-then-len-events-clause-only
returns-then-len-events-clause-only c =
    let ns = c.args.types.now.nodes.items in
    let schema : ℕ → Schema = λ n. type_at ns n c.args.place in
    let d = begun_by ns c.args.events.now (map item_record_of c.in-Some.items.items) c.new-decoder.result c.new-decoder.ensures c.in-Some.ensures in
    let m : c.len-2.result ≡ length c.read_onto.new.tape.items = omega (arith, c.len-2.ensures, c.read_onto.new.tape.ok.0) in
    surplus schema ns c.args.events.now d (ap (λ es. records_of ns es) c.new-tape.ensures.items) c.in-Ok.ensures.ok c.read_onto.new.tape.items refl (λ q. c.if-len-events.true (m ∙ q)) _

pub returns-in-Some-first_outside-clause-only : goal.returns-in-Some-first_outside-clause-only
returns-in-Some-first_outside-clause-only c =
    let ns = c.args.types.now.nodes.items in
    let schema : ℕ → Schema = λ n. type_at ns n c.args.place in
    let d = begun_by ns c.args.events.now (map item_record_of c.in-Some.items.items) c.new-decoder.result c.new-decoder.ensures c.in-Some.ensures in
    let e = sym (c.first_outside.ensures ∙ ap (λ es. position (λ x. not (is_admitted (record_of ns x))) es) c.as_slice.ensures.value) ∙ c.in-Some-first_outside.is in
    outside schema ns c.args.events.now d (ap (λ es. records_of ns es) c.new-tape.ensures.items) c.in-Ok.ensures.ok c.read_onto.new.tape.items refl
    (some_outside (λ x. is_admitted (record_of ns x)) c.read_onto.new.tape.items c.in-Some-first_outside.index e) _

pub returns-clause-ok : goal.returns-clause-ok
returns-clause-ok c =
    let ns = c.args.types.now.nodes.items in
    let schema : ℕ → Schema = λ n. type_at ns n c.args.place in
    let d = begun_by ns c.args.events.now (map item_record_of c.in-Some.items.items) c.new-decoder.result c.new-decoder.ensures c.in-Some.ensures in
    let m : c.len-2.result ≡ length c.read_onto.new.tape.items = omega (arith, c.len-2.ensures, c.read_onto.new.tape.ok.0) in
    let e = sym (c.first_outside.ensures ∙ ap (λ es. position (λ x. not (is_admitted (record_of ns x))) es) c.as_slice.ensures.value) ∙ c.in-None.is in
    built schema ns c.args.events.now d (ap (λ es. records_of ns es) c.new-tape.ensures.items) c.in-Ok.ensures.ok c.read_onto.new.tape.items refl
    (c.args.types.now.lawful 128 c.args.place) (sym m ∙ c.if-len-events.false) (none_outside (λ x. is_admitted (record_of ns x)) c.read_onto.new.tape.items e)
