use Rattle.asn1_laws_versions.proofs.Routes.{arrives_or_refuses}
use Rattle.asn1_laws_versions.proofs.route_laws.route_ends.Goals as goal

pub returns : goal.returns
returns c = λ old new from hops v w lo ln ext n e. arrives_or_refuses old new lo ln ext v from hops w e
