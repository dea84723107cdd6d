use Rattle.asn1_laws_numbers.proofs.Numbers.{fewest_digits}
use Rattle.asn1_laws_numbers.proofs.number_laws.fewest_digits.Goals as goal

pub returns : goal.returns
returns c = fewest_digits
