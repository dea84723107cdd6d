use Rattle.asn1_schema_laws.proofs.Joined.{raised}
use Rattle.asn1_schema_constructed.proofs.ItemRecords.{reads_item, unread_item}
use Rattle.asn1_schema_constructed.proofs.items.DecodeItems.decode_item.Goals as goal

pub returns-in_err-value-clause-only : goal.returns-in_err-value-clause-only
returns-in_err-value-clause-only g c = raised _ _ _ c.from_residual.ensures.1 (unread_item g.met.T.EnumeratedType.is_of _ c.in_err-value.ensures.only)

pub returns-clause-ok : goal.returns-clause-ok
returns-clause-ok g c = let t = g.met.T.EnumeratedType in reads_item t.is_of _ (t.means _) c.in_ok-value.ensures.ok
