use Rattle.asn1_schema_laws.proofs.Joined.{raised}
use Rattle.asn1_schema_decode.proofs.SingleRecords.{reads_null, unread_null}
use Rattle.asn1_schema_decode.proofs.markers.PhantomDataDecode.decode_with_tag_and_constraints.Goals as goal

pub returns-in_err-decode_null-clause-only : goal.returns-in_err-decode_null-clause-only
returns-in_err-decode_null-clause-only g c = raised _ _ _ c.from_residual.ensures.1 (unread_null _ c.in_err-decode_null.ensures.only)

pub returns-clause-ok : goal.returns-clause-ok
returns-clause-ok g c = reads_null _ c.in_ok-decode_null.ensures.ok
