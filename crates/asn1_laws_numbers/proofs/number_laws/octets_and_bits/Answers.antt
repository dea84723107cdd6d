use Rattle.asn1_laws_numbers.proofs.Numbers.{octets_and_bits}
use Rattle.asn1_laws_numbers.proofs.number_laws.octets_and_bits.Goals as goal

pub returns : goal.returns
returns c = octets_and_bits
