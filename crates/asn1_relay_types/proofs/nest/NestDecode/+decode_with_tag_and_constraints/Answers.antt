use Rattle.std.proofs.Common.{rules}
use Rattle.std.proofs.Common.{refl, false, ap, Err}
use Rattle.asn1_schema.proofs.Author.{failed_reads, passed_on, raised, reads_begun, unread_begun, unread_begun_end}
use Rattle.asn1_schema.proofs.Author.{unread_begun_here}
use Rattle.asn1_relay_types.specs.Nest.{nest_table, nest_schema, nest_is, nest_first, nest_second}
use Rattle.asn1_relay_types.proofs.nest.NestDecode.+decode_with_tag_and_constraints.Goals as goal

pub returns-in_err-chosen-clause-only : goal.returns-in_err-chosen-clause-only
returns-in_err-chosen-clause-only g t c = raised _ _ _ c.from_residual.ensures.1 (unread_begun_here (nest_table nest_schema) nest_is _ c.in_err-chosen.ensures.only)

pub returns-in_err-decode_with_tag-clause-only : goal.returns-in_err-decode_with_tag-clause-only
returns-in_err-decode_with_tag-clause-only g t c = let one = g.met.D.Decoder.one_record in let carries = g.met.D.Decoder.records_carried in
    raised _ _ _ c.from_residual-in_err-decode_with_tag.ensures.1
    (unread_begun (nest_table nest_schema) nest_is one carries (record { added = false; place = 0 }) c.in_ok-chosen.ensures.call.level
    (rw (nest_first _ c.in_ok-chosen.ensures.within c.if-chosen-eq0.true) at c.in_ok-chosen.ensures.ok) c.in_err-decode_with_tag.ensures.only)

pub returns-in_err-end-clause-only : goal.returns-in_err-end-clause-only
returns-in_err-end-clause-only g t c = let one = g.met.D.Decoder.one_record in let carries = g.met.D.Decoder.records_carried in
    raised _ _ _ c.from_residual-in_err-end.ensures.1 (unread_begun_end (nest_table nest_schema) nest_is one carries
    (record { added = false; place = 0 }) c.in_ok-chosen.ensures.call.level
    (rw (nest_first _ c.in_ok-chosen.ensures.within c.if-chosen-eq0.true) at c.in_ok-chosen.ensures.ok) g.met.D.Decoder.values_carried c.in_ok-decode_with_tag.ensures.ok c.in_err-end.ensures.only)

pub returns-then-chosen-eq0-clause-ok : goal.returns-then-chosen-eq0-clause-ok
returns-then-chosen-eq0-clause-ok g t c = reads_begun (nest_table nest_schema) nest_is (record { added = false; place = 0 }) refl
    c.in_ok-chosen.ensures.call.level (rw (nest_first _ c.in_ok-chosen.ensures.within c.if-chosen-eq0.true) at c.in_ok-chosen.ensures.ok) c.in_ok-decode_with_tag.ensures.ok c.in_ok-end.ensures.ok

pub returns-in_err-inner-clause-only : goal.returns-in_err-inner-clause-only
returns-in_err-inner-clause-only g t c = let one = g.met.D.Decoder.one_record in let carries = g.met.D.Decoder.records_carried in
    raised _ _ _ c.from_residual-in_err-inner.ensures.1 (unread_begun (nest_table nest_schema) nest_is one carries
    (record { added = false; place = 1 }) c.in_ok-chosen.ensures.call.level
    (rw (nest_second _ c.in_ok-chosen.ensures.within c.if-chosen-eq0.false) at c.in_ok-chosen.ensures.ok) c.in_err-inner.ensures.only)

pub returns-in_err-end-2-clause-only : goal.returns-in_err-end-2-clause-only
returns-in_err-end-2-clause-only g t c = let one = g.met.D.Decoder.one_record in let carries = g.met.D.Decoder.records_carried in
    raised _ _ _ c.from_residual-in_err-end-2.ensures.1 (unread_begun_end (nest_table nest_schema) nest_is one carries
    (record { added = false; place = 1 }) c.in_ok-chosen.ensures.call.level
    (rw (nest_second _ c.in_ok-chosen.ensures.within c.if-chosen-eq0.false) at c.in_ok-chosen.ensures.ok) g.met.D.Decoder.values_carried c.in_ok-inner.ensures.ok c.in_err-end-2.ensures.only)

pub returns-clause-ok : goal.returns-clause-ok
returns-clause-ok g t c = reads_begun (nest_table nest_schema) nest_is (record { added = false; place = 1 }) refl c.in_ok-chosen.ensures.call.level
    (rw (nest_second _ c.in_ok-chosen.ensures.within c.if-chosen-eq0.false) at c.in_ok-chosen.ensures.ok) (rw c.in-Ok.ensures.ok c.in_ok-inner.ensures.ok) c.in_ok-end-2.ensures.ok

pub returns-in_err-end-clause-call : goal.returns-in_err-end-clause-call
returns-in_err-end-clause-call g t c =
    record {
      failed = search rules;
      level = search rules;
      already = search rules;
      after = let law = g.met.D.Decoder.goes_on in
          passed_on _ c.from_residual-in_err-end.ensures.1
          (λ h. absurd (law _ _ _ c.in_ok-chosen.ensures.ok (failed_reads law c.in_ok-decode_with_tag.ensures.ok (c.in_err-end.ensures.call.after (ap (λ z. Err z) h)))));
    }

pub returns-in_err-end-2-clause-call : goal.returns-in_err-end-2-clause-call
returns-in_err-end-2-clause-call g t c =
    record {
      failed = search rules;
      level = search rules;
      already = search rules;
      after = let law = g.met.D.Decoder.goes_on in
          passed_on _ c.from_residual-in_err-end-2.ensures.1
          (λ h. absurd (law _ _ _ c.in_ok-chosen.ensures.ok (failed_reads law c.in_ok-inner.ensures.ok (c.in_err-end-2.ensures.call.after (ap (λ z. Err z) h)))));
    }
