use Rattle.asn1_laws_values.proofs.Normal.{normal_depth}
use Rattle.asn1_laws_values.proofs.value_laws.normal_nests_no_deeper.Goals as goal

pub returns : goal.returns
returns c = normal_depth
