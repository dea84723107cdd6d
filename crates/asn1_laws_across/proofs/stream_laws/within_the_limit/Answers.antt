use Rattle.asn1_laws_across.proofs.Relayed.{within, without}
use Rattle.asn1_laws_across.proofs.stream_laws.within_the_limit.Goals as goal

pub returns : goal.returns
returns c = λ r s limit w. (without r s limit w, within r s limit w)
