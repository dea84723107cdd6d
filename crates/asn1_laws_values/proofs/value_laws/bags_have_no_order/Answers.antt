use Rattle.asn1_laws_values.proofs.Bags.{arranged_same}
use Rattle.asn1_laws_values.proofs.value_laws.bags_have_no_order.Goals as goal

pub returns : goal.returns
returns c = arranged_same
