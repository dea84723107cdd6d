use Rattle.asn1_laws_numbers.proofs.Numbers.{digits_sum}
use Rattle.asn1_laws_numbers.proofs.number_laws.digits_are_a_sum.Goals as goal

pub returns : goal.returns
returns c = digits_sum
