use Rattle.std.proofs.Common.{rules}
use Rattle.std.proofs.Common.{refl, sym, ◌∙◌, ap, Err}
use Rattle.asn1_model.specs.Schema.{optional}
use Rattle.asn1_schema_laws.proofs.Joined.{raised}
use Rattle.asn1_schema_authored.proofs.Reading.{reads_enclosed, reads_no_addition, unread_addition_here, unread_inner, unread_end}
use Rattle.asn1_schema_authored.proofs.GroupReading.{reads_kept, reads_left, unread_left}
use Rattle.asn1_schema_decode.proofs.Failing.{passed_on, failed_reads}
use Rattle.asn1_schema_authored.proofs.decode.DecodeExtension.decode_extension_addition_group.Goals as goal

pub returns-in_err-present-clause-only : goal.returns-in_err-present-clause-only
returns-in_err-present-clause-only g c = raised _ _ _ c.from_residual.ensures.1 (unread_addition_here optional c.in_err-present.ensures.only)

pub returns-then-not-present-clause-ok : goal.returns-then-not-present-clause-ok
returns-then-not-present-clause-ok g c = reads_no_addition optional _ _ refl (rw c.if-not-present.true at c.in_ok-present.ensures.ok)

pub returns-in_err-group-clause-only : goal.returns-in_err-group-clause-only
returns-in_err-group-clause-only g c = let one = g.met.Self.Decoder.one_record in let carries = g.met.Self.Decoder.records_carried in
    raised _ _ _ c.from_residual-in_err-group.ensures.1 (unread_inner one carries optional (rw c.if-not-present.false at c.in_ok-present.ensures.ok)
    (rw c.in_ok-present.ensures.call.level at c.in_err-group.ensures.only))

pub returns-in_err-end_addition-clause-only : goal.returns-in_err-end_addition-clause-only
returns-in_err-end_addition-clause-only g c = let one = g.met.Self.Decoder.one_record in let carries = g.met.Self.Decoder.records_carried in
    let values = g.met.Self.Decoder.values_carried in raised _ _ _ c.from_residual-in_err-end_addition.ensures.1
    (unread_end one carries values optional (rw c.if-not-present.false at c.in_ok-present.ensures.ok)
    (rw c.in_ok-present.ensures.call.level at c.in_ok-group.ensures.ok) c.in_err-end_addition.ensures.only)

pub returns-in_err-note_empty-clause-only : goal.returns-in_err-note_empty-clause-only
returns-in_err-note_empty-clause-only g c = let one = g.met.Self.Decoder.one_record in let carries = g.met.Self.Decoder.records_carried in
    let values = g.met.Self.Decoder.values_carried in raised _ _ _ c.from_residual-in_err-note_empty.ensures.1
    (unread_left g.G.Group.components one carries values (sym c.is_empty.ensures ∙ c.if-is_empty.true)
    (rw c.if-not-present.false at c.in_ok-present.ensures.ok) (rw c.in_ok-present.ensures.call.level at c.in_ok-group.ensures.ok) c.in_ok-end_addition.ensures.ok c.in_err-note_empty.ensures.only)

pub returns-then-is_empty-clause-ok : goal.returns-then-is_empty-clause-ok
returns-then-is_empty-clause-ok g c = reads_left g.G.Group.components (sym c.is_empty.ensures ∙ c.if-is_empty.true)
    (reads_enclosed (rw c.if-not-present.false at c.in_ok-present.ensures.ok) (rw c.in_ok-present.ensures.call.level at c.in_ok-group.ensures.ok)
    c.in_ok-end_addition.ensures.ok) c.in_ok-note_empty.ensures.ok

pub returns-clause-ok : goal.returns-clause-ok
returns-clause-ok g c = reads_kept g.G.Group.components (sym c.is_empty.ensures ∙ c.if-is_empty.false)
    (reads_enclosed (rw c.if-not-present.false at c.in_ok-present.ensures.ok) (rw c.in_ok-present.ensures.call.level at c.in_ok-group.ensures.ok) c.in_ok-end_addition.ensures.ok)

pub returns-in_err-end_addition-clause-call : goal.returns-in_err-end_addition-clause-call
returns-in_err-end_addition-clause-call g c =
    record {
      failed = search rules;
      level = search rules;
      already = search rules;
      after = let law = g.met.Self.Decoder.goes_on in
          passed_on _ c.from_residual-in_err-end_addition.ensures.1 (λ h.
          absurd (law _ _ _ c.in_ok-present.ensures.ok (failed_reads law c.in_ok-group.ensures.ok (c.in_err-end_addition.ensures.call.after (ap (λ z. Err z) h)))));
    }
