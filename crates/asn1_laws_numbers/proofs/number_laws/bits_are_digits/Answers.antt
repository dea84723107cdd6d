use Rattle.asn1_laws_numbers.proofs.Numbers.{bits_are_digits}
use Rattle.asn1_laws_numbers.proofs.number_laws.bits_are_digits.Goals as goal

pub returns : goal.returns
returns c = bits_are_digits
