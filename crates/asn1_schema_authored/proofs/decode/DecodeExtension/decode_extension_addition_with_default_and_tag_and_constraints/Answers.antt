use Rattle.std.proofs.Common.{rules}
use Rattle.std.proofs.Common.{sym, ◌∙◌, ap, Err}
use Rattle.asn1_schema_laws.proofs.Joined.{raised}
use Rattle.asn1_schema_authored.specs.Reads.{omitted, spelled_out, other_value}
use Rattle.asn1_schema_authored.proofs.Reading.{reads_enclosed, unread_extension_default_here, unread_extension_default, unread_extension_default_end, unread_extension_noted}
use Rattle.asn1_schema_decode.proofs.Failing.{passed_on, failed_reads}
use Rattle.asn1_schema_authored.proofs.decode.DecodeExtension.decode_extension_addition_with_default_and_tag_and_constraints.Goals as goal
use Rattle.asn1_schema_authored.proofs.decode.DecodeExtension.decode_extension_addition_with_default_and_tag_and_constraints.Goals.{then-is_default+in_ok-note_default, else-is_default}

pub returns-in_err-present-clause-only : goal.returns-in_err-present-clause-only
returns-in_err-present-clause-only g c = raised _ _ _ c.from_residual.ensures.1 (unread_extension_default_here c.in_err-present.ensures.only)

pub returns-then-not-present-clause-ok : goal.returns-then-not-present-clause-ok
returns-then-not-present-clause-ok g c = omitted c.in-Ok.ensures (rw c.if-not-present.true at c.in_ok-present.ensures.ok)

pub returns-in_err-value-clause-only : goal.returns-in_err-value-clause-only
returns-in_err-value-clause-only g c = let one = g.met.Self.Decoder.one_record in let carries = g.met.Self.Decoder.records_carried in
    raised _ _ _ c.from_residual-in_err-value.ensures.1
    (unread_extension_default one carries (rw c.if-not-present.false at c.in_ok-present.ensures.ok) (rw c.in_ok-present.ensures.call.level at c.in_err-value.ensures.only))

pub returns-in_err-end_addition-clause-only : goal.returns-in_err-end_addition-clause-only
returns-in_err-end_addition-clause-only g c = let one = g.met.Self.Decoder.one_record in let carries = g.met.Self.Decoder.records_carried in
    let values = g.met.Self.Decoder.values_carried in raised _ _ _ c.from_residual-in_err-end_addition.ensures.1
    (unread_extension_default_end one carries values (rw c.if-not-present.false at c.in_ok-present.ensures.ok)
    (rw c.in_ok-present.ensures.call.level at c.in_ok-value.ensures.ok) c.in_err-end_addition.ensures.only)

pub returns-in_err-note_default-clause-only : goal.returns-in_err-note_default-clause-only
returns-in_err-note_default-clause-only g c =
    let one = g.met.Self.Decoder.one_record in let carries = g.met.Self.Decoder.records_carried in let values = g.met.Self.Decoder.values_carried in
    raised _ _ _ c.from_residual-in_err-note_default.ensures.1 (unread_extension_noted one carries values
    (sym c.is_default-is_default.ensures ∙ c.if-is_default.true) (rw c.if-not-present.false at c.in_ok-present.ensures.ok)
    (rw c.in_ok-present.ensures.call.level at c.in_ok-value.ensures.ok) c.in_ok-end_addition.ensures.ok c.in_err-note_default.ensures.only)

pub returns-clause-ok : goal.returns-clause-ok
returns-clause-ok g c =
    let read = reads_enclosed (rw c.if-not-present.false at c.in_ok-present.ensures.ok) (rw c.in_ok-present.ensures.call.level at c.in_ok-value.ensures.ok) c.in_ok-end_addition.ensures.ok in
    elim c.if-is_default.branch [
      | then-is_default+in_ok-note_default w ↦ rw w.self-is (spelled_out (sym c.is_default-is_default.ensures ∙ w.if-is_default.true) _ read w.in_ok-note_default.ensures.ok)
      | else-is_default w ↦ rw w.self-is (other_value (sym c.is_default-is_default.ensures ∙ w.if-is_default.false) read)
    ]

pub returns-in_err-end_addition-clause-call : goal.returns-in_err-end_addition-clause-call
returns-in_err-end_addition-clause-call g c =
    record {
      failed = search rules;
      level = search rules;
      already = search rules;
      after = let law = g.met.Self.Decoder.goes_on in
          passed_on _ c.from_residual-in_err-end_addition.ensures.1 (λ h.
          absurd (law _ _ _ c.in_ok-present.ensures.ok (failed_reads law c.in_ok-value.ensures.ok (c.in_err-end_addition.ensures.call.after (ap (λ z. Err z) h)))));
    }
