use Rattle.std.proofs.Common.{rules}
use Rattle.std.proofs.Common.{refl, ◌∙◌, ap, Err}
use Rattle.asn1_schema.specs.Author.{sequence_form}
use Rattle.asn1_schema.specs.Author.{optional}
use Rattle.asn1_schema.proofs.Author.{raised, reads_as, unread_as, reads_required, reads_left_out, reads_there}
use Rattle.asn1_schema.proofs.Author.{reads_end, reads_field, reads_constructed, unread_required, unread_presence_bit}
use Rattle.asn1_schema.proofs.Author.{unread_present, unread_end, unread_field, unread_field_here, unread_constructed}
use Rattle.asn1_schema.proofs.Author.{unread_constructed_here, failed_before, passed_on, failed_reads, count_presence_bits}
use Rattle.asn1_schema_example.specs.Numbers.{number_typed}
use Rattle.asn1_schema_example.specs.Chain.{chain_table, chain_schema, chain_is, chain_opens, chain_made, chain_typed}
use Rattle.asn1_schema_example.proofs.chain.ChainConstructed.+read_fields.Goals as goal

pub returns-in_err-value-clause-only : goal.returns-in_err-value-clause-only
returns-in_err-value-clause-only g t c = raised _ _ _ c.from_residual.ensures.1 (unread_field_here _ _ (unread_required number_typed c.in_err-value.ensures.only))

pub returns-in_err-is_there-clause-only : goal.returns-in_err-is_there-clause-only
returns-in_err-is_there-clause-only g t c = let one = g.met.D.Decoder.one_record in let carries = g.met.D.Decoder.records_carried in
    let values = g.met.D.Decoder.values_carried in
    raised _ _ _ c.from_residual-in_err-is_there.ensures.1
    (unread_field one carries values _ (reads_required number_typed c.in_ok-value.ensures.ok) (unread_field_here _ _ (unread_presence_bit optional _ _ refl c.in_err-is_there.ensures.only)))

pub returns-in_err-end-clause-only : goal.returns-in_err-end-clause-only
returns-in_err-end-clause-only g t c = let one = g.met.D.Decoder.one_record in let carries = g.met.D.Decoder.records_carried in
    let values = g.met.D.Decoder.values_carried in
    raised _ _ _ c.from_residual-in_err-end.ensures.1
    (unread_field one carries values _ (reads_required number_typed c.in_ok-value.ensures.ok)
    (unread_field one carries values _ (reads_left_out optional _ _ refl (rw c.if-not-is_there.true at c.in_ok-is_there.ensures.ok)) (unread_end _ c.in_err-end.ensures.only)))

pub returns-then-not-is_there-clause-ok : goal.returns-then-not-is_there-clause-ok
returns-then-not-is_there-clause-ok g t c =
    rw chain_made (reads_field _ (reads_required number_typed c.in_ok-value.ensures.ok)
    (reads_field _ (reads_left_out optional _ _ refl (rw c.if-not-is_there.true at c.in_ok-is_there.ensures.ok)) (reads_end _ c.in_ok-end.ensures.ok)))

pub returns-in_err-begin_sequence-clause-only : goal.returns-in_err-begin_sequence-clause-only
returns-in_err-begin_sequence-clause-only g t c = let one = g.met.D.Decoder.one_record in let carries =
    g.met.D.Decoder.records_carried in let values = g.met.D.Decoder.values_carried in
    raised _ _ _ c.from_residual-in_err-begin_sequence.ensures.1
    (unread_field one carries values _ (reads_required number_typed c.in_ok-value.ensures.ok)
    (unread_field_here _ _ (unread_present one carries optional refl (rw c.if-not-is_there.false at c.in_ok-is_there.ensures.ok)
    (unread_as _ _ chain_is (unread_constructed_here sequence_form (chain_table chain_schema) _
    (c.number_of_optional_and_default_fields-optional.ensures ∙ count_presence_bits _ _ c.fields.ensures) refl
    (rw (c.in_ok-is_there.ensures.call.level, c.in_ok-value.ensures.call.level) at c.in_err-begin_sequence.ensures.only))))))

pub returns-in_err-inner-clause-only : goal.returns-in_err-inner-clause-only
returns-in_err-inner-clause-only g t c = let one = g.met.D.Decoder.one_record in let carries = g.met.D.Decoder.records_carried in
    let values = g.met.D.Decoder.values_carried in
    raised _ _ _ c.from_residual-in_err-inner.ensures.1
    (unread_field one carries values _ (reads_required number_typed c.in_ok-value.ensures.ok)
    (unread_field_here _ _ (unread_present one carries optional refl (rw c.if-not-is_there.false at c.in_ok-is_there.ensures.ok)
    (unread_as _ _ chain_is (unread_constructed one carries sequence_form (chain_table chain_schema)
    (c.number_of_optional_and_default_fields-optional.ensures ∙ count_presence_bits _ _ c.fields.ensures) refl
    (rw (c.in_ok-is_there.ensures.call.level, c.in_ok-value.ensures.call.level) at c.in_ok-begin_sequence.ensures.call.level) c.in_ok-begin_sequence.ensures.ok c.in_err-inner.ensures.only)))))

pub returns-in_err-end-2-clause-only : goal.returns-in_err-end-2-clause-only
returns-in_err-end-2-clause-only g t c = let one = g.met.D.Decoder.one_record in let carries = g.met.D.Decoder.records_carried in
    let values = g.met.D.Decoder.values_carried in
    raised _ _ _ c.from_residual-in_err-end-2.ensures.1
    (unread_field one carries values _ (reads_required number_typed c.in_ok-value.ensures.ok)
    (unread_field one carries values _ (reads_there optional refl chain_typed
    (rw c.if-not-is_there.false at c.in_ok-is_there.ensures.ok)
    (reads_as _ _ chain_is (reads_constructed sequence_form (chain_table chain_schema) (c.number_of_optional_and_default_fields-optional.ensures
    ∙ count_presence_bits _ _ c.fields.ensures) refl
    (rw (c.in_ok-is_there.ensures.call.level, c.in_ok-value.ensures.call.level) at c.in_ok-begin_sequence.ensures.call.level)
    c.in_ok-begin_sequence.ensures.ok c.in_ok-inner.ensures.ok)) refl) (unread_end _ c.in_err-end-2.ensures.only)))

pub returns-clause-ok : goal.returns-clause-ok
returns-clause-ok g t c = rw chain_made (reads_field _ (reads_required number_typed c.in_ok-value.ensures.ok)
    (reads_field _ (reads_there optional refl chain_typed (rw c.if-not-is_there.false at c.in_ok-is_there.ensures.ok)
    (rw (c.in-Ok.ensures.ok, chain_opens) (reads_as _ _ chain_is
    (reads_constructed sequence_form (chain_table chain_schema) (c.number_of_optional_and_default_fields-optional.ensures
    ∙ count_presence_bits _ _ c.fields.ensures) refl
    (rw (c.in_ok-is_there.ensures.call.level, c.in_ok-value.ensures.call.level) at c.in_ok-begin_sequence.ensures.call.level)
    c.in_ok-begin_sequence.ensures.ok c.in_ok-inner.ensures.ok))) refl) (reads_end _ c.in_ok-end-2.ensures.ok)))

pub returns-in_err-is_there-clause-call : goal.returns-in_err-is_there-clause-call
returns-in_err-is_there-clause-call g t c =
    record {
      failed = search rules;
      level = search rules;
      already = search rules;
      after = let law = g.met.D.Decoder.goes_on in
          passed_on _ c.from_residual-in_err-is_there.ensures.1 (λ h. failed_reads law c.in_ok-value.ensures.ok (c.in_err-is_there.ensures.call.after (ap (λ z. Err z) h)));
    }

pub returns-in_err-end-2-clause-call : goal.returns-in_err-end-2-clause-call
returns-in_err-end-2-clause-call g t c =
    record {
      failed = search rules;
      level = search rules;
      already = search rules;
      after = let law = g.met.D.Decoder.goes_on in
          passed_on _ c.from_residual-in_err-end-2.ensures.1
          (λ h. absurd (law _ _ _ c.in_ok-begin_sequence.ensures.ok (failed_before law _ _ _ c.in_ok-inner.ensures.ok.chain (c.in_err-end-2.ensures.call.after (ap (λ z. Err z) h)))));
    }
