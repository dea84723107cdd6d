use Rattle.asn1_laws_across.proofs.Relayed.{none_longer}
use Rattle.asn1_laws_across.proofs.stream_laws.none_within_is_none.Goals as goal

pub returns : goal.returns
returns c = λ r s limit w x l h. none_longer r r s limit w x h l
