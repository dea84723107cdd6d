use Rattle.asn1_laws_values.proofs.Recursive.{agrees_with_itself}
use Rattle.asn1_laws_values.proofs.unfolding_laws.agrees_with_itself.Goals as goal

pub returns : goal.returns
returns c = λ n s. agrees_with_itself n s
