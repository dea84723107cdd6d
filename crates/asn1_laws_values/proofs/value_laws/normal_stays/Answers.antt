use Rattle.asn1_laws_values.proofs.Normal.{normal_stays}
use Rattle.asn1_laws_values.proofs.value_laws.normal_stays.Goals as goal

pub returns : goal.returns
returns c = normal_stays
