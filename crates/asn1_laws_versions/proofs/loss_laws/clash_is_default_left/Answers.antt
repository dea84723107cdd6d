use Rattle.asn1_model.specs.Normal.{normal}
use Rattle.asn1_laws_values.proofs.Typed.{normal_is_of}
use Rattle.asn1_laws_values.proofs.Normals.{normal_normal}
use Rattle.asn1_laws_versions.proofs.Losses.{clash_is_left, left_is_clash}
use Rattle.asn1_laws_versions.proofs.loss_laws.clash_is_default_left.Goals as goal

pub returns : goal.returns
returns c = λ s t v w l x o e. (λ h. clash_is_left s t (normal t v) w x (normal_is_of t v l o) (normal_normal t v) e h, λ h. (w, e, left_is_clash s t (normal t v) w e h))
