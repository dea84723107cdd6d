use Rattle.std.proofs.Common.{rules}
use Rattle.asn1_schema_laws.proofs.Joined.{raised}
use Rattle.asn1_schema_decode.specs.Reads.{omitted, spelled_out, other_value}
use Rattle.asn1_schema_decode.proofs.PresenceBits.{reads_present, unread_default_here, unread_default, unread_noted}
use Rattle.std.proofs.Common.{sym, ◌∙◌, ap, Err}
use Rattle.asn1_schema_decode.proofs.components.DecodeSequence.decode_default_with_tag_and_constraints.Goals as goal
use Rattle.asn1_schema_decode.proofs.Failing.{passed_on, failed_reads}
use Rattle.asn1_schema_decode.proofs.components.DecodeSequence.decode_default_with_tag_and_constraints.Goals.{then-is_default+in_ok-note_default, else-is_default}

pub returns-in_err-is_there-clause-only : goal.returns-in_err-is_there-clause-only
returns-in_err-is_there-clause-only g c = raised _ _ _ c.from_residual.ensures.1 (unread_default_here c.in_err-is_there.ensures.only)

pub returns-then-not-is_there-clause-ok : goal.returns-then-not-is_there-clause-ok
returns-then-not-is_there-clause-ok g c = omitted c.in-Ok.ensures (rw c.if-not-is_there.true at c.in_ok-is_there.ensures.ok)

pub returns-in_err-value-clause-only : goal.returns-in_err-value-clause-only
returns-in_err-value-clause-only g c = let one = g.met.Self.Decoder.one_record in let carries =
    g.met.Self.Decoder.records_carried in let values = g.met.Self.Decoder.values_carried in
    raised _ _ _ c.from_residual-in_err-value.ensures.1
    (unread_default one carries (rw c.if-not-is_there.false at c.in_ok-is_there.ensures.ok) (rw c.in_ok-is_there.ensures.call.level at c.in_err-value.ensures.only))

pub returns-in_err-note_default-clause-only : goal.returns-in_err-note_default-clause-only
returns-in_err-note_default-clause-only g c =
    let one = g.met.Self.Decoder.one_record in let carries = g.met.Self.Decoder.records_carried in let values = g.met.Self.Decoder.values_carried in
    raised _ _ _ c.from_residual-in_err-note_default.ensures.1
    (unread_noted one carries values (sym c.is_default-is_default.ensures ∙ c.if-is_default.true)
    (rw c.if-not-is_there.false at c.in_ok-is_there.ensures.ok) (rw c.in_ok-is_there.ensures.call.level at c.in_ok-value.ensures.ok) c.in_err-note_default.ensures.only)

pub returns-clause-ok : goal.returns-clause-ok
returns-clause-ok g c =
    let presence = rw c.if-not-is_there.false at c.in_ok-is_there.ensures.ok in
    let read = rw c.in_ok-is_there.ensures.call.level at c.in_ok-value.ensures.ok in
    elim c.if-is_default.branch [
      | then-is_default+in_ok-note_default w ↦ rw w.self-is (spelled_out (sym c.is_default-is_default.ensures ∙ w.if-is_default.true) _ (reads_present presence read) w.in_ok-note_default.ensures.ok)
      | else-is_default w ↦ rw w.self-is (other_value (sym c.is_default-is_default.ensures ∙ w.if-is_default.false) (reads_present presence read))
    ]

pub returns-in_err-note_default-clause-call : goal.returns-in_err-note_default-clause-call
returns-in_err-note_default-clause-call g c =
    record {
      failed = search rules;
      level = search rules;
      already = search rules;
      after = let law = g.met.Self.Decoder.goes_on in
          passed_on _ c.from_residual-in_err-note_default.ensures.1
          (λ h. absurd (law _ _ _ c.in_ok-is_there.ensures.ok (failed_reads law c.in_ok-value.ensures.ok (c.in_err-note_default.ensures.call.after (ap (λ z. Err z) h)))));
    }
