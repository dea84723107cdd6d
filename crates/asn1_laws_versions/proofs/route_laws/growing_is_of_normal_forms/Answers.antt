use Rattle.asn1_laws_versions.proofs.Growing.{normal_growth}
use Rattle.asn1_laws_versions.proofs.route_laws.growing_is_of_normal_forms.Goals as goal

pub returns : goal.returns
returns c = λ s t u h k. normal_growth s t u h k
