use Rattle.asn1_laws_numbers.proofs.Padded.{oer_numbers}
use Rattle.asn1_laws_numbers.proofs.number_laws.oer_numbers_are_sums.Goals as goal

pub returns : goal.returns
returns c = oer_numbers
