use Rattle.asn1_schema_laws.proofs.Joined.{raised}
use Rattle.asn1_schema_wrapped.proofs.Renamed.{writes_by, cannot_by}
use Rattle.asn1_schema_wrapped.proofs.constrained.ConstrainedEncode.encode_with_tag_and_constraints.Goals as goal

pub returns-in_err-encode_with_tag_and_constraints-clause-only : goal.returns-in_err-encode_with_tag_and_constraints-clause-only
returns-in_err-encode_with_tag_and_constraints-clause-only g c =
    raised _ _ _ c.from_residual.ensures.1 (cannot_by (g.met.C.ConstraintsOf.same_under _) (g.met.C.ConstraintsOf.same_meaning _) c.in_err-encode_with_tag_and_constraints.ensures.only)

pub returns-clause-ok : goal.returns-clause-ok
returns-clause-ok g c = writes_by (g.met.C.ConstraintsOf.same_under _) (g.met.C.ConstraintsOf.same_meaning _) c.in_ok-encode_with_tag_and_constraints.ensures.ok
