use Rattle.asn1_laws_numbers.proofs.Numbers.{complement_sum}
use Rattle.asn1_laws_numbers.proofs.number_laws.complement_is_a_sum.Goals as goal

pub returns : goal.returns
returns c = complement_sum
