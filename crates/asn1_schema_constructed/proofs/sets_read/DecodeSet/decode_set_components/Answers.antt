use Rattle.asn1_schema_laws.specs.Forms.{set_form}
use Rattle.asn1_schema_laws.proofs.Joined.{raised}
use Rattle.asn1_schema_decode.proofs.Reading.{reads_constructed, unread_constructed, unread_constructed_here}
use Rattle.asn1_schema_constructed.proofs.sets_read.DecodeSet.decode_set_components.Goals as goal

pub returns-in_err-begin_set-clause-only : goal.returns-in_err-begin_set-clause-only
returns-in_err-begin_set-clause-only g c = raised _ _ _ c.from_residual.ensures.1 (unread_constructed_here set_form _ _ c.requires.presence_bits c.requires.marker c.in_err-begin_set.ensures.only)

pub returns-in_err-components-clause-only : goal.returns-in_err-components-clause-only
returns-in_err-components-clause-only g c = let one = g.met.Self.Decoder.one_record in let carries = g.met.Self.Decoder.records_carried in
    raised _ _ _ c.from_residual-in_err-components.ensures.1 (unread_constructed one carries set_form _ c.requires.presence_bits c.requires.marker
    c.in_ok-begin_set.ensures.call.level c.in_ok-begin_set.ensures.ok c.in_err-components.ensures.only)

pub returns-clause-ok : goal.returns-clause-ok
returns-clause-ok g c = reads_constructed set_form _ c.requires.presence_bits c.requires.marker c.in_ok-begin_set.ensures.call.level c.in_ok-begin_set.ensures.ok c.in_ok-components.ensures.ok
