use Rattle.asn1_laws_versions.proofs.Grown.{same_grown}
use Rattle.asn1_laws_versions.proofs.extending_laws.growing_keeps_values_apart.Goals as goal

pub returns : goal.returns
returns c = λ s t v w x y h e f. same_grown s t v w x y h e f
