use Rattle.asn1_laws_versions.proofs.Normals.{normal_grown, grown_is_normal}
use Rattle.asn1_laws_versions.proofs.extending_laws.growing_keeps_normal_forms.Goals as goal

pub returns : goal.returns
returns c = λ s t v w h e. (normal_grown s t v w h e, λ n. grown_is_normal s t v w h n e)
