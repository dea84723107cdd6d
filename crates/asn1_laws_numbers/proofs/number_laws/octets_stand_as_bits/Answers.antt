use Rattle.asn1_laws_numbers.proofs.Ordered.{ordered_as_bits}
use Rattle.asn1_laws_numbers.proofs.number_laws.octets_stand_as_bits.Goals as goal

pub returns : goal.returns
returns c = ordered_as_bits
