use Rattle.asn1_schema_laws.proofs.Joined.{raised}
use Rattle.asn1_schema_decode.proofs.Reading.{reads_end, unread_end}
use Rattle.asn1_schema_decode.proofs.components.EndDecodeComponents.decode_components.Goals as goal

pub returns-in_err-end-clause-only : goal.returns-in_err-end-clause-only
returns-in_err-end-clause-only g c = raised _ _ _ c.from_residual.ensures.1 (unread_end _ c.in_err-end.ensures.only)

pub returns-clause-ok : goal.returns-clause-ok
returns-clause-ok g c = reads_end _ c.in_ok-end.ensures.ok
