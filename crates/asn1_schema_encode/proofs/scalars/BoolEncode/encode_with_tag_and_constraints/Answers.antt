use Rattle.asn1_schema_laws.proofs.Joined.{raised}
use Rattle.asn1_schema_encode.proofs.SingleRecords.{writes_boolean, cannot_boolean}
use Rattle.asn1_schema_encode.proofs.scalars.BoolEncode.encode_with_tag_and_constraints.Goals as goal

pub returns-in_err-encode_bool-clause-only : goal.returns-in_err-encode_bool-clause-only
returns-in_err-encode_bool-clause-only g c = raised _ _ _ c.from_residual.ensures.1 (cannot_boolean c.in_err-encode_bool.ensures.only)

pub returns-clause-ok : goal.returns-clause-ok
returns-clause-ok g c = writes_boolean c.in_ok-encode_bool.ensures.ok
