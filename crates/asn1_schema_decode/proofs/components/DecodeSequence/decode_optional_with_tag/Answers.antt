use Rattle.asn1_schema_laws.proofs.Joined.{raised}
use Rattle.asn1_schema_decode.proofs.PresenceBits.{part_optional_read, part_optional_unread}
use Rattle.asn1_schema_decode.proofs.components.DecodeSequence.decode_optional_with_tag.Goals as goal

pub returns-in_err-value-clause-only : goal.returns-in_err-value-clause-only
returns-in_err-value-clause-only g c = raised _ _ _ c.from_residual.ensures.1 (part_optional_unread g.T.Described.typed g.T.Described.is_own (rw c.constraints.ensures at c.in_err-value.ensures.only))

pub returns-clause-ok : goal.returns-clause-ok
returns-clause-ok g c = part_optional_read g.T.Described.typed g.T.Described.is_own _ (rw c.constraints.ensures at c.in_ok-value.ensures.ok)
