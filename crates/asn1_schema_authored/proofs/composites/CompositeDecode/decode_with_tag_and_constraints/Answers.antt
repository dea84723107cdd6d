use Rattle.asn1_schema_laws.proofs.Joined.{raised}
use Rattle.asn1_schema_authored.proofs.Composing.{reads_composite, unread_composite, unread_composite_here}
use Rattle.asn1_schema_authored.proofs.composites.CompositeDecode.decode_with_tag_and_constraints.Goals as goal

pub returns-in_err-begin_read-clause-only : goal.returns-in_err-begin_read-clause-only
returns-in_err-begin_read-clause-only g c = raised _ _ _ c.from_residual.ensures.1 (unread_composite_here _ _ g.T.Components.shape.form c.heading.ensures.heading _ c.in_err-begin_read.ensures.only)

pub returns-in_err-value-clause-only : goal.returns-in_err-value-clause-only
returns-in_err-value-clause-only g c = raised _ _ _ c.from_residual-in_err-value.ensures.1
    (unread_composite _ _ g.T.Components.shape.form c.heading.ensures.heading g.met.D.Decoder.one_record g.met.D.Decoder.records_carried
    c.in_ok-begin_read.ensures.call.level c.in_ok-begin_read.ensures.ok c.in_err-value.ensures.only)

pub returns-clause-ok : goal.returns-clause-ok
returns-clause-ok g c = reads_composite _ _ g.T.Components.shape.form c.heading.ensures.heading c.in_ok-begin_read.ensures.call.level c.in_ok-begin_read.ensures.ok c.in_ok-value.ensures.ok
