use Rattle.asn1_laws_versions.proofs.Alike.{carried_alike}
use Rattle.asn1_laws_versions.proofs.extending_laws.same_is_carried_alike.Goals as goal

pub returns : goal.returns
returns c = λ s t v w x h f e. carried_alike s t v x w h e f
