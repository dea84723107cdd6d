use Rattle.asn1_laws_values.proofs.Normals.{normal_again, normal_normal}
use Rattle.asn1_laws_values.proofs.message_laws.normal_forms.Goals as goal

pub returns : goal.returns
returns c = λ s v. (normal_again s v, normal_normal s v)
