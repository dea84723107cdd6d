use Rattle.std.proofs.Common.{rules}
use Rattle.std.proofs.Common.{◌∙◌, ap, Err}
use Rattle.asn1_schema_laws.proofs.Joined.{raised}
use Rattle.asn1_schema_decode.proofs.Failing.{passed_on, failed_reads}
use Rattle.asn1_schema_constructed.specs.Chosen.{chosen_value}
use Rattle.asn1_schema_constructed.proofs.ChoiceReading.{reads_begun, unread_begun, unread_begun_here, unread_begun_end}
use Rattle.asn1_schema_constructed.proofs.choices_read.DecodeAlternatives.decode_choice.Goals as goal

pub returns-in_err-chosen-clause-only : goal.returns-in_err-chosen-clause-only
returns-in_err-chosen-clause-only g c = raised _ _ _ c.from_residual.ensures.1 (unread_begun_here _ (g.met.T.Alternatives.is_of _) _ c.in_err-chosen.ensures.only)

pub returns-in_err-value-clause-only : goal.returns-in_err-value-clause-only
returns-in_err-value-clause-only g c = let one = g.met.Self.Decoder.one_record in let carries = g.met.Self.Decoder.records_carried in
    raised _ _ _ c.from_residual-in_err-value.ensures.1 (unread_begun _ (g.met.T.Alternatives.is_of _) one carries _ c.in_ok-chosen.ensures.call.level
    c.in_ok-chosen.ensures.ok c.in_err-value.ensures.only)

pub returns-in_err-end-clause-only : goal.returns-in_err-end-clause-only
returns-in_err-end-clause-only g c = let one = g.met.Self.Decoder.one_record in let carries = g.met.Self.Decoder.records_carried in
    raised _ _ _ c.from_residual-in_err-end.ensures.1 (unread_begun_end _ (g.met.T.Alternatives.is_of _) one carries _
    c.in_ok-chosen.ensures.call.level c.in_ok-chosen.ensures.ok g.met.Self.Decoder.values_carried c.in_ok-value.ensures.ok c.in_err-end.ensures.only)

pub returns-clause-ok : goal.returns-clause-ok
returns-clause-ok g c = let t = g.T.Choice in reads_begun _ (g.met.T.Alternatives.is_of _) _
    (g.met.T.Choice.means _ ∙ ap (λ p. chosen_value p (t.inner c.in_ok-value.value)) c.in_ok-value.ensures.place) c.in_ok-chosen.ensures.call.level
    c.in_ok-chosen.ensures.ok c.in_ok-value.ensures.ok c.in_ok-end.ensures.ok

pub returns-in_err-end-clause-call : goal.returns-in_err-end-clause-call
returns-in_err-end-clause-call g c =
    record {
      failed = search rules;
      level = search rules;
      already = search rules;
      after = let law = g.met.Self.Decoder.goes_on in
          passed_on _ c.from_residual-in_err-end.ensures.1
          (λ h. absurd (law _ _ _ c.in_ok-chosen.ensures.ok (failed_reads law c.in_ok-value.ensures.ok (c.in_err-end.ensures.call.after (ap (λ z. Err z) h)))));
    }
