use Rattle.asn1_schema_laws.proofs.Joined.{raised}
use Rattle.asn1_schema_authored.proofs.Composing.{writes_composite, cannot_composite, cannot_composite_here}
use Rattle.asn1_schema_authored.proofs.composites.CompositeEncode.encode_with_tag_and_constraints.Goals as goal

pub returns-in_err-begin_written-clause-only : goal.returns-in_err-begin_written-clause-only
returns-in_err-begin_written-clause-only g c = raised _ _ _ c.from_residual.ensures.1
    (cannot_composite_here _ _ g.T.Components.shape.form c.heading.ensures.heading _ _ c.in_err-begin_written.ensures.only)

pub returns-in_err-write_components-clause-only : goal.returns-in_err-write_components-clause-only
returns-in_err-write_components-clause-only g c = raised _ _ _ c.from_residual-in_err-write_components.ensures.1
    (cannot_composite _ _ g.T.Components.shape.form c.heading.ensures.heading g.met.E.Encoder.one_after c.in_ok-begin_written.ensures.ok c.in_err-write_components.ensures.only)

pub returns-clause-ok : goal.returns-clause-ok
returns-clause-ok g c = writes_composite _ _ g.T.Components.shape.form c.heading.ensures.heading c.in_ok-begin_written.ensures.ok c.in_ok-write_components.ensures.ok
