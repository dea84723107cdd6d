use Rattle.asn1_schema_laws.specs.Forms.{sequence_form}
use Rattle.asn1_schema_laws.proofs.Joined.{raised}
use Rattle.asn1_schema_decode.proofs.Reading.{reads_constructed, unread_constructed, unread_constructed_here}
use Rattle.asn1_schema_decode.proofs.components.DecodeSequence.decode_sequence_components.Goals as goal

pub returns-in_err-begin_sequence-clause-only : goal.returns-in_err-begin_sequence-clause-only
returns-in_err-begin_sequence-clause-only g c = raised _ _ _ c.from_residual.ensures.1
    (unread_constructed_here sequence_form _ _ c.requires.presence_bits c.requires.plain c.in_err-begin_sequence.ensures.only)

pub returns-in_err-components-clause-only : goal.returns-in_err-components-clause-only
returns-in_err-components-clause-only g c = let one = g.met.Self.Decoder.one_record in let carries =
    g.met.Self.Decoder.records_carried in let values = g.met.Self.Decoder.values_carried in
    raised _ _ _ c.from_residual-in_err-components.ensures.1
    (unread_constructed one carries sequence_form _ c.requires.presence_bits c.requires.plain
    c.in_ok-begin_sequence.ensures.call.level c.in_ok-begin_sequence.ensures.ok c.in_err-components.ensures.only)

pub returns-clause-ok : goal.returns-clause-ok
returns-clause-ok g c =
    reads_constructed sequence_form _ c.requires.presence_bits c.requires.plain c.in_ok-begin_sequence.ensures.call.level c.in_ok-begin_sequence.ensures.ok c.in_ok-components.ensures.ok
