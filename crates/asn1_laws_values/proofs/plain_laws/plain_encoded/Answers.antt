use Rattle.asn1_laws_values.proofs.Plain.{plain_encoded}
use Rattle.asn1_laws_values.proofs.plain_laws.plain_encoded.Goals as goal

pub returns : goal.returns
returns c = λ r s v h. plain_encoded r s v h
