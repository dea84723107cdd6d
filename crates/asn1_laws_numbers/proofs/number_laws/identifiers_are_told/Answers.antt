use Rattle.asn1_laws_fronts.proofs.Sevens.{identifiers_equal}
use Rattle.asn1_laws_numbers.proofs.number_laws.identifiers_are_told.Goals as goal

pub returns : goal.returns
returns c = identifiers_equal
