use Rattle.asn1_laws_numbers.proofs.Numbers.{fewest_octets}
use Rattle.asn1_laws_numbers.proofs.number_laws.fewest_octets.Goals as goal

pub returns : goal.returns
returns c = fewest_octets
