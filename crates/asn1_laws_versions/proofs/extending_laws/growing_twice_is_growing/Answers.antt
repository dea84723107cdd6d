use Rattle.asn1_laws_versions.proofs.Extending.{grown_twice}
use Rattle.asn1_laws_versions.proofs.extending_laws.growing_twice_is_growing.Goals as goal

pub returns : goal.returns
returns c = λ s t u v w x h k e f. grown_twice s t u v w x h k e f
