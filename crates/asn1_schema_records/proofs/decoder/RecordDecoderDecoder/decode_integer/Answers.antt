use Rattle.asn1_model.specs.Schema.{any_number}
use Rattle.std.proofs.Common.{◌≡◌, rules}
use Rattle.asn1_schema_laws.specs.Records.{whole}
use Rattle.asn1_schema_constraints.proofs.Held.{admitted_held, admitted_within}
use Rattle.asn1_schema_records.proofs.Taking.{takes_whole, no_number}
use Rattle.asn1_schema_records.specs.Kept.{record_of, bounds_in}
use Rattle.asn1_schema_records.proofs.decoder.RecordDecoderDecoder.decode_integer.Goals as goal

pub returns-in-Ok-clause-ok : goal.returns-in-Ok-clause-ok
returns-in-Ok-clause-ok g c =
    let k : record_of c.in_ok-item.item ≡ whole (bounds_in c.in-Some.limits) any_number c.in-Some.number = search rules in
    let same = c.are_among.ensures.0 c.if-not-are_among.false in
    takes_whole c.in_ok-item.ensures.ok k same c.in-Ok.ensures.value
    (admitted_held c.args.constraints.now.value g.I.IntegerType.held c.in-Some.number c.in-Ok.ensures.admitted c.in-Ok.ensures.held)
    (admitted_within c.args.constraints.now.value c.in-Some.number c.in-Ok.ensures.admitted)

pub returns-clause-only : goal.returns-clause-only
returns-clause-only g c =
    let k : record_of c.in_ok-item.item ≡ whole (bounds_in c.in-Some.limits) any_number c.in-Some.number = search rules in
    no_number c.args.constraints.now.value g.I.IntegerType.held c.in_ok-item.ensures.ok k c.refuse-in-Err.ensures.refused c.in-Err.ensures.refused
