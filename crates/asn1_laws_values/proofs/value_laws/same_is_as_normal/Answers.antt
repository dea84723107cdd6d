use Rattle.asn1_laws_values.proofs.IsNormal.{stays_normal}
use Rattle.asn1_laws_values.proofs.value_laws.same_is_as_normal.Goals as goal

pub returns : goal.returns
returns c = stays_normal
