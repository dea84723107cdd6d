use Rattle.asn1_schema_laws.proofs.Joined.{raised}
use Rattle.asn1_schema_decode.proofs.SingleRecords.{reads_integer, unread_integer}
use Rattle.asn1_schema_decode.proofs.natives.U16Decode.decode_with_tag_and_constraints.Goals as goal

pub returns-in_err-value-clause-only : goal.returns-in_err-value-clause-only
returns-in_err-value-clause-only g c = raised _ _ _ c.from_residual.ensures.1 (unread_integer _ _ _ c.in_err-value.ensures.only)

pub returns-clause-ok : goal.returns-clause-ok
returns-clause-ok g c = reads_integer _ _ _ c.in_ok-value.ensures.ok
