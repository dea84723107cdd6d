use Rattle.asn1_schema_laws.proofs.Joined.{raised}
use Rattle.asn1_schema_authored.proofs.Reading.{extension_read, extension_unread}
use Rattle.asn1_schema_authored.proofs.decode.DecodeExtension.decode_extension_addition_with_tag.Goals as goal

pub returns-in_err-value-clause-only : goal.returns-in_err-value-clause-only
returns-in_err-value-clause-only g c = raised _ _ _ c.from_residual.ensures.1 (extension_unread g.T.Described.typed g.T.Described.is_own (rw c.constraints.ensures at c.in_err-value.ensures.only))

pub returns-clause-ok : goal.returns-clause-ok
returns-clause-ok g c = extension_read g.T.Described.typed g.T.Described.is_own _ (rw c.constraints.ensures at c.in_ok-value.ensures.ok)
