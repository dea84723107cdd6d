use Rattle.asn1_schema_laws.proofs.Joined.{raised}
use Rattle.asn1_schema_decode.proofs.PresenceBits.{part_default_read, part_default_unread}
use Rattle.asn1_schema_decode.proofs.components.DecodeSequence.decode_default_with_tag.Goals as goal

pub returns-in_err-value-clause-only : goal.returns-in_err-value-clause-only
returns-in_err-value-clause-only g c =
    let law = g.met.V.DefaultOf.lawful in
    raised _ _ _ c.from_residual.ensures.1 (part_default_unread g.T.Described.typed g.T.Described.is_own law.is_value (rw c.constraints.ensures at c.in_err-value.ensures.only))

pub returns-clause-ok : goal.returns-clause-ok
returns-clause-ok g c =
    let law = g.met.V.DefaultOf.lawful in
    part_default_read g.T.Described.typed g.T.Described.is_own law.is_value (rw c.constraints.ensures at c.in_ok-value.ensures.ok)
