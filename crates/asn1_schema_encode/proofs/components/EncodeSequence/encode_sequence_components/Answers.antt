use Rattle.asn1_schema_laws.specs.Forms.{sequence_form}
use Rattle.asn1_schema_laws.proofs.Joined.{raised}
use Rattle.asn1_schema_encode.proofs.Writing.{writes_constructed, cannot_constructed, cannot_constructed_here}
use Rattle.asn1_schema_encode.proofs.components.EncodeSequence.encode_sequence_components.Goals as goal

pub returns-in_err-begin_sequence-clause-only : goal.returns-in_err-begin_sequence-clause-only
returns-in_err-begin_sequence-clause-only g c = raised _ _ _ c.from_residual.ensures.1
    (cannot_constructed_here _ sequence_form _ c.requires.presence_bits c.requires.plain _ _ c.in_err-begin_sequence.ensures.only)

pub returns-in_err-encode_components-clause-only : goal.returns-in_err-encode_components-clause-only
returns-in_err-encode_components-clause-only g c = let one = g.met.Self.Encoder.one_after in
    raised _ _ _ c.from_residual-in_err-encode_components.ensures.1
    (cannot_constructed _ sequence_form _ c.requires.presence_bits c.requires.plain one c.in_ok-begin_sequence.ensures.ok c.in_err-encode_components.ensures.only)

pub returns-clause-ok : goal.returns-clause-ok
returns-clause-ok g c = writes_constructed _ sequence_form _ c.requires.presence_bits c.requires.plain c.in_ok-begin_sequence.ensures.ok c.in_ok-encode_components.ensures.ok
