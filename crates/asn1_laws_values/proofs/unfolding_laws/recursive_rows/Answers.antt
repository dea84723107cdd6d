use Rattle.asn1_laws_values.proofs.Recursive.{recursive_rows}
use Rattle.asn1_laws_values.proofs.unfolding_laws.recursive_rows.Goals as goal

pub returns : goal.returns
returns c = recursive_rows
