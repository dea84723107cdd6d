use Rattle.asn1_laws_fronts.proofs.Every.{one_front}
use Rattle.asn1_laws_fronts.proofs.front_laws.one_front.Goals as goal

pub returns : goal.returns
returns c = one_front
