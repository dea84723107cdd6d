use Rattle.asn1_laws_versions.proofs.Answers.{one_answer}
use Rattle.asn1_laws_versions.proofs.route_laws.one_answer_is_right.Goals as goal

pub returns : goal.returns
returns c = λ source target s w x y lawful. one_answer source target s w lawful x y
