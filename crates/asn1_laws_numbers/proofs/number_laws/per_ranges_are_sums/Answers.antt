use Rattle.asn1_laws_numbers.proofs.Ranges.{per_ranges}
use Rattle.asn1_laws_numbers.proofs.number_laws.per_ranges_are_sums.Goals as goal

pub returns : goal.returns
returns c = per_ranges
