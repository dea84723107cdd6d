use Rattle.asn1_laws_across.proofs.Sorted.{octets_in_order, bits_in_order}
use Rattle.asn1_laws_across.proofs.order_laws.bags_are_written_in_order.Goals as goal

pub returns : goal.returns
returns c = (octets_in_order, bits_in_order)
