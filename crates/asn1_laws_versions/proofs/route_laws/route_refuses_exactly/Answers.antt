use Rattle.asn1_laws_versions.specs.Routes.{at_first}
use Rattle.asn1_laws_versions.proofs.Routes.{fails_refuses, refuses_fails}
use Rattle.asn1_laws_versions.proofs.route_laws.route_refuses_exactly.Goals as goal

pub returns : goal.returns
returns c = λ old new from hops v w lo ln ext n e i a. (fails_refuses old new lo ln ext v (at_first from) hops w i a e, refuses_fails old new lo ln ext v from hops w e i a)
