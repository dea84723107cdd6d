use Rattle.asn1_schema_laws.proofs.Joined.{raised}
use Rattle.asn1_schema_constructed.proofs.ItemRecords.{writes_item, cannot_item}
use Rattle.asn1_schema_constructed.proofs.items.EncodeItems.encode_item.Goals as goal

pub returns-in_err-encode_enumerated-clause-only : goal.returns-in_err-encode_enumerated-clause-only
returns-in_err-encode_enumerated-clause-only g c = let t = g.met.T.EnumeratedType in raised _ _ _ c.from_residual.ensures.1 (cannot_item t.is_of (t.means _) c.in_err-encode_enumerated.ensures.only)

pub returns-clause-ok : goal.returns-clause-ok
returns-clause-ok g c = let t = g.met.T.EnumeratedType in writes_item t.is_of (t.means _) c.in_ok-encode_enumerated.ensures.ok
