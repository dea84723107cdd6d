use Rattle.asn1_schema_laws.proofs.Joined.{raised}
use Rattle.asn1_schema_encode.proofs.SingleRecords.{writes_null, cannot_null}
use Rattle.asn1_schema_encode.proofs.markers.PhantomDataEncode.encode_with_tag_and_constraints.Goals as goal

pub returns-in_err-encode_null-clause-only : goal.returns-in_err-encode_null-clause-only
returns-in_err-encode_null-clause-only g c = raised _ _ _ c.from_residual.ensures.1 (cannot_null c.in_err-encode_null.ensures.only)

pub returns-clause-ok : goal.returns-clause-ok
returns-clause-ok g c = writes_null c.in_ok-encode_null.ensures.ok
