use Rattle.asn1_laws_across.proofs.Relayed.{goes_on}
use Rattle.asn1_laws_across.proofs.stream_laws.relay_goes_on.Goals as goal

pub returns : goal.returns
returns c = λ source target s limit w x n k o q rest other why. goes_on source target s limit w x n k o q rest other why
