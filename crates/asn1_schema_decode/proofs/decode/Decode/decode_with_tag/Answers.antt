use Rattle.asn1_schema_laws.proofs.Joined.{raised}
use Rattle.asn1_schema_decode.proofs.Reading.{reads_as, unread_as}
use Rattle.asn1_schema_decode.proofs.decode.Decode.decode_with_tag.Goals as goal

pub returns-in_err-value-clause-only : goal.returns-in_err-value-clause-only
returns-in_err-value-clause-only g c = raised _ _ _ c.from_residual.ensures.1 (unread_as _ _ g.Self.Described.is_own (rw c.constraints.ensures at c.in_err-value.ensures.only))

pub returns-clause-ok : goal.returns-clause-ok
returns-clause-ok g c = reads_as _ _ g.Self.Described.is_own (rw c.constraints.ensures at c.in_ok-value.ensures.ok)
