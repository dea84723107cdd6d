use Rattle.asn1_laws_across.proofs.Relayed.{relayed_once}
use Rattle.asn1_laws_across.proofs.stream_laws.relayed_once.Goals as goal

pub returns : goal.returns
returns c = λ source target s limit w n k o q rest other why cause lawful. relayed_once source target s limit lawful w n k o q rest other why cause
