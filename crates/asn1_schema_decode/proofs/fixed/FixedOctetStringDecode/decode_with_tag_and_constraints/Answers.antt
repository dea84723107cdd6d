use Rattle.asn1_schema_laws.proofs.Joined.{raised}
use Rattle.asn1_schema_decode.proofs.SingleRecords.{reads_octets_as, unread_octet_string}
use Rattle.asn1_schema_decode.proofs.fixed.FixedOctetStringDecode.decode_with_tag_and_constraints.Goals as goal

pub returns-in_err-value-clause-only : goal.returns-in_err-value-clause-only
returns-in_err-value-clause-only g c = raised _ _ _ c.from_residual.ensures.1 (unread_octet_string _ _ _ (rw c.single_value-held.ensures at c.in_err-value.ensures.only))

pub returns-clause-ok : goal.returns-clause-ok
returns-clause-ok g c = reads_octets_as _ _ _ c.fixed_octet_string-string.ensures (rw c.single_value-held.ensures at c.in_ok-value.ensures.ok)
