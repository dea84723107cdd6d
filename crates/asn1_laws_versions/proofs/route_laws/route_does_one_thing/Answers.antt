use Rattle.asn1_laws_versions.proofs.Routes.{arrives_once, refused_once, not_both}
use Rattle.asn1_laws_versions.proofs.route_laws.route_does_one_thing.Goals as goal

pub returns : goal.returns
returns c = λ old new from hops w lo ln. (arrives_once old new lo ln from hops w, refused_once old new lo ln from hops w, not_both old new lo ln from hops w)
