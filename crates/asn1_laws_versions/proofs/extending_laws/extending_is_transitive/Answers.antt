use Rattle.asn1_laws_versions.proofs.Transitive.{extends_twice}
use Rattle.asn1_laws_versions.proofs.extending_laws.extending_is_transitive.Goals as goal

pub returns : goal.returns
returns c = λ s t u h k. extends_twice s t u h k
