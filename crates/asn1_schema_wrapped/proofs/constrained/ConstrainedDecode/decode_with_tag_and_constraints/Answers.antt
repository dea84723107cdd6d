use Rattle.asn1_schema_laws.proofs.Joined.{raised}
use Rattle.asn1_schema_wrapped.proofs.Renamed.{reads_by, unread_by}
use Rattle.asn1_schema_wrapped.proofs.constrained.ConstrainedDecode.decode_with_tag_and_constraints.Goals as goal

pub returns-in_err-value-clause-only : goal.returns-in_err-value-clause-only
returns-in_err-value-clause-only g c = raised _ _ _ c.from_residual.ensures.1 (unread_by (g.met.C.ConstraintsOf.same_under _) c.in_err-value.ensures.only)

pub returns-clause-ok : goal.returns-clause-ok
returns-clause-ok g c = rw c.new.ensures (reads_by (g.met.C.ConstraintsOf.same_under _) (g.met.C.ConstraintsOf.same_meaning _) c.in_ok-value.ensures.ok)
