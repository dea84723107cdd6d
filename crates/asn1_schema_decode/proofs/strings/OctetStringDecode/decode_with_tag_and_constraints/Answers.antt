use Rattle.asn1_schema_laws.proofs.Joined.{raised}
use Rattle.asn1_schema_decode.proofs.SingleRecords.{reads_octets_as, unread_octet_string}
use Rattle.asn1_schema_decode.proofs.strings.OctetStringDecode.decode_with_tag_and_constraints.Goals as goal

pub returns-in_err-value-clause-only : goal.returns-in_err-value-clause-only
returns-in_err-value-clause-only g c = raised _ _ _ c.from_residual.ensures.1 (unread_octet_string _ _ _ c.in_err-value.ensures.only)

pub returns-in-Ok-clause-ok : goal.returns-in-Ok-clause-ok
returns-in-Ok-clause-ok g c = reads_octets_as _ _ _ c.in-Ok.ensures.value c.in_ok-value.ensures.ok
