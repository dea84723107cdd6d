use Rattle.asn1_laws_versions.proofs.Routes.{free_arrives, arrives_free, arrives_last}
use Rattle.asn1_laws_versions.proofs.route_laws.route_arrives_exactly.Goals as goal

pub returns : goal.returns
returns c = λ old new from hops v w lo ln ext n e. (free_arrives old new lo ln ext v from hops w e, arrives_free old new lo ln ext v from hops w e, arrives_last old new lo ln ext v from hops w e n)
