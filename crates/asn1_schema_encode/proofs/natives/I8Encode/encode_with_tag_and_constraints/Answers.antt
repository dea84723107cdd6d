use Rattle.asn1_schema_laws.proofs.Joined.{raised}
use Rattle.asn1_schema_encode.proofs.SingleRecords.{writes_integer, cannot_integer}
use Rattle.asn1_schema_encode.proofs.natives.I8Encode.encode_with_tag_and_constraints.Goals as goal

pub returns-in_err-encode_integer-clause-only : goal.returns-in_err-encode_integer-clause-only
returns-in_err-encode_integer-clause-only g c = raised _ _ _ c.from_residual.ensures.1 (cannot_integer _ _ c.in_err-encode_integer.ensures.only)

pub returns-clause-ok : goal.returns-clause-ok
returns-clause-ok g c = writes_integer _ _ c.in_ok-encode_integer.ensures.ok
