use Rattle.std.proofs.Common.{rules}
use Rattle.asn1_schema_laws.proofs.Joined.{raised}
use Rattle.asn1_schema_decode.proofs.Reading.{reads_field, unread_field, unread_field_here}
use Rattle.asn1_schema_decode.proofs.Failing.{passed_on, failed_part}
use Rattle.std.proofs.Common.{ap, Err}
use Rattle.asn1_schema_decode.proofs.components.DefaultedComponentDecodeComponents.decode_components.Goals as goal

pub returns-in_err-value-clause-only : goal.returns-in_err-value-clause-only
returns-in_err-value-clause-only g c = raised _ _ _ c.from_residual.ensures.1 (unread_field_here _ _ c.in_err-value.ensures.only)

pub returns-in_err-rest-clause-only : goal.returns-in_err-rest-clause-only
returns-in_err-rest-clause-only g c = let one = g.met.D.Decoder.one_record in let carries = g.met.D.Decoder.records_carried in
    let values = g.met.D.Decoder.values_carried in
    raised _ _ _ c.from_residual-in_err-rest.ensures.1 (unread_field one carries values _ c.in_ok-value.ensures.ok (rw c.in_ok-value.ensures.call.level at c.in_err-rest.ensures.only))

pub returns-clause-ok : goal.returns-clause-ok
returns-clause-ok g c = reads_field _ c.in_ok-value.ensures.ok (rw c.in_ok-value.ensures.call.level at c.in_ok-rest.ensures.ok)

pub returns-in_err-rest-clause-call : goal.returns-in_err-rest-clause-call
returns-in_err-rest-clause-call g c =
    record {
      failed = search rules;
      level = search rules;
      already = search rules;
      after = passed_on _ c.from_residual-in_err-rest.ensures.1
          (λ h. failed_part g.met.D.Decoder.goes_on c.in_ok-value.ensures.ok (c.in_err-rest.ensures.call.after (ap (λ z. Err z) h)));
    }
