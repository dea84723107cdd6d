use Rattle.asn1_schema_laws.proofs.Joined.{raised}
use Rattle.asn1_schema_encode.proofs.Writing.{writes_end, cannot_end}
use Rattle.asn1_schema_encode.proofs.components.EndEncodeComponents.encode_components.Goals as goal

pub returns-in_err-end-clause-only : goal.returns-in_err-end-clause-only
returns-in_err-end-clause-only g c = raised _ _ _ c.from_residual.ensures.1 (cannot_end c.in_err-end.ensures.only)

pub returns-clause-ok : goal.returns-clause-ok
returns-clause-ok g c = writes_end c.in_ok-end.ensures.ok
