use Rattle.std.proofs.Common.{rules}
use Rattle.asn1_schema_laws.proofs.Joined.{raised}
use Rattle.asn1_schema_authored.proofs.Reading.{reads_enclosed, unread_extension_here, unread_extension, unread_extension_end}
use Rattle.std.proofs.Common.{ap, Err}
use Rattle.asn1_schema_decode.proofs.Failing.{passed_on, failed_reads}
use Rattle.asn1_schema_authored.proofs.decode.DecodeExtension.decode_extension_addition_with_tag_and_constraints.Goals as goal

pub returns-in_err-present-clause-only : goal.returns-in_err-present-clause-only
returns-in_err-present-clause-only g c = raised _ _ _ c.from_residual.ensures.1 (unread_extension_here c.in_err-present.ensures.only)

pub returns-then-not-present-clause-ok : goal.returns-then-not-present-clause-ok
returns-then-not-present-clause-ok g c = rw c.if-not-present.true at c.in_ok-present.ensures.ok

pub returns-in_err-value-clause-only : goal.returns-in_err-value-clause-only
returns-in_err-value-clause-only g c = let one = g.met.Self.Decoder.one_record in let carries = g.met.Self.Decoder.records_carried in
    raised _ _ _ c.from_residual-in_err-value.ensures.1 (unread_extension one carries (rw c.if-not-present.false at c.in_ok-present.ensures.ok)
    (rw c.in_ok-present.ensures.call.level at c.in_err-value.ensures.only))

pub returns-in_err-end_addition-clause-only : goal.returns-in_err-end_addition-clause-only
returns-in_err-end_addition-clause-only g c = let one = g.met.Self.Decoder.one_record in let carries = g.met.Self.Decoder.records_carried in
    let values = g.met.Self.Decoder.values_carried in raised _ _ _ c.from_residual-in_err-end_addition.ensures.1
    (unread_extension_end one carries values (rw c.if-not-present.false at c.in_ok-present.ensures.ok)
    (rw c.in_ok-present.ensures.call.level at c.in_ok-value.ensures.ok) c.in_err-end_addition.ensures.only)

pub returns-clause-ok : goal.returns-clause-ok
returns-clause-ok g c = reads_enclosed (rw c.if-not-present.false at c.in_ok-present.ensures.ok) (rw c.in_ok-present.ensures.call.level at c.in_ok-value.ensures.ok) c.in_ok-end_addition.ensures.ok

pub returns-in_err-end_addition-clause-call : goal.returns-in_err-end_addition-clause-call
returns-in_err-end_addition-clause-call g c =
    record {
      failed = search rules;
      level = search rules;
      already = search rules;
      after = let law = g.met.Self.Decoder.goes_on in
          passed_on _ c.from_residual-in_err-end_addition.ensures.1 (λ h.
          absurd (law _ _ _ c.in_ok-present.ensures.ok (failed_reads law c.in_ok-value.ensures.ok (c.in_err-end_addition.ensures.call.after (ap (λ z. Err z) h)))));
    }
