use Rattle.asn1_values_natives.proofs.OctetLaws.{unsigned-after, digits-unsigned, unsigned-digits}
use Rattle.asn1_values_natives.proofs.laws.octets_are_digits.Goals as goal

pub returns-clause-sum : goal.returns-clause-sum
returns-clause-sum c = unsigned-after

pub returns-clause-digits : goal.returns-clause-digits
returns-clause-digits c = digits-unsigned

pub returns-clause-number : goal.returns-clause-number
returns-clause-number c = unsigned-digits
