use Rattle.asn1_schema_laws.proofs.Joined.{raised}
use Rattle.asn1_schema_authored.proofs.Writing.{writes_no_more, cannot_no_more}
use Rattle.asn1_schema_authored.proofs.encode.NoMoreEncodeAdditions.encode_additions.Goals as goal

pub returns-in_err-end-clause-only : goal.returns-in_err-end-clause-only
returns-in_err-end-clause-only g c = raised _ _ _ c.from_residual.ensures.1 (cannot_no_more c.in_err-end.ensures.only)

pub returns-clause-ok : goal.returns-clause-ok
returns-clause-ok g c = writes_no_more c.in_ok-end.ensures.ok
