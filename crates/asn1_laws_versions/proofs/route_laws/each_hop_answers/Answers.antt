use Rattle.asn1_laws_versions.proofs.Hops.{hands_on, answers_by_cause}
use Rattle.asn1_laws_versions.proofs.route_laws.each_hop_answers.Goals as goal

pub returns : goal.returns
returns c = λ old new p h v w lo ln ext e. (hands_on old new lo ln ext p h v w e, λ a. answers_by_cause old new lo ln ext p h v w a e)
