use Rattle.asn1_laws_numbers.proofs.Padded.{per_numbers}
use Rattle.asn1_laws_numbers.proofs.number_laws.per_numbers_are_sums.Goals as goal

pub returns : goal.returns
returns c = per_numbers
