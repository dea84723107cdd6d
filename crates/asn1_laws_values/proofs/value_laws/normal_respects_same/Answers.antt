use Rattle.asn1_laws_values.proofs.Normal.{normal_same}
use Rattle.asn1_laws_values.proofs.value_laws.normal_respects_same.Goals as goal

pub returns : goal.returns
returns c = normal_same
