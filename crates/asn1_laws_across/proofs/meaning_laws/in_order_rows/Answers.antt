use Rattle.asn1_laws_across.proofs.InOrder.{in_order_rows}
use Rattle.asn1_laws_across.proofs.meaning_laws.in_order_rows.Goals as goal

pub returns : goal.returns
returns c = in_order_rows
