use Rattle.std.proofs.Common.{◌∙◌, sym}
use Rattle.asn1_schema_laws.specs.Forms.{sequence_form}
use Rattle.asn1_schema_laws.proofs.Joined.{raised}
use Rattle.asn1_schema_decode.proofs.Reading.{reads_constructed, unread_constructed, unread_constructed_here}
use Rattle.asn1_schema_constructed.proofs.Counting.{count_presence_bits}
use Rattle.asn1_schema_constructed.proofs.constructed.DecodeConstructed.decode_sequence.Goals as goal

pub returns-in_err-begin_sequence-clause-only : goal.returns-in_err-begin_sequence-clause-only
returns-in_err-begin_sequence-clause-only g c = raised _ _ _ c.from_residual.ensures.1
    (unread_constructed_here sequence_form _ _ (c.number_of_optional_and_default_fields-optional.ensures ∙ count_presence_bits _ _ c.fields.ensures)
    (sym c.is_extensible-extensible.ensures) c.in_err-begin_sequence.ensures.only)

pub returns-in_err-value-clause-only : goal.returns-in_err-value-clause-only
returns-in_err-value-clause-only g c = let one = g.met.Self.Decoder.one_record in let carries = g.met.Self.Decoder.records_carried in
    raised _ _ _ c.from_residual-in_err-value.ensures.1
    (unread_constructed one carries sequence_form _ (c.number_of_optional_and_default_fields-optional.ensures ∙ count_presence_bits _ _ c.fields.ensures)
    (sym c.is_extensible-extensible.ensures) c.in_ok-begin_sequence.ensures.call.level c.in_ok-begin_sequence.ensures.ok c.in_err-value.ensures.only)

pub returns-clause-ok : goal.returns-clause-ok
returns-clause-ok g c = reads_constructed sequence_form _ (c.number_of_optional_and_default_fields-optional.ensures ∙ count_presence_bits _ _ c.fields.ensures)
    (sym c.is_extensible-extensible.ensures) c.in_ok-begin_sequence.ensures.call.level c.in_ok-begin_sequence.ensures.ok c.in_ok-value.ensures.ok
