use Rattle.asn1_schema_laws.proofs.Joined.{raised}
use Rattle.asn1_schema_decode.proofs.SingleRecords.{reads_octets_as, unread_octet_string}
use Rattle.asn1_schema_wrapped.proofs.any.AnyDecode.decode_with_tag_and_constraints.Goals as goal

pub returns-in_err-octets-clause-only : goal.returns-in_err-octets-clause-only
returns-in_err-octets-clause-only g c = raised _ _ _ c.from_residual.ensures.1 (unread_octet_string _ _ _ c.in_err-octets.ensures.only)

pub returns-clause-ok : goal.returns-clause-ok
returns-clause-ok g c = rw c.new.ensures (reads_octets_as _ _ _ c.in-Ok.ensures.octets c.in_ok-octets.ensures.ok)
