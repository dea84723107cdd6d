use Rattle.asn1_laws_across.proofs.Relayed.{alone}
use Rattle.asn1_laws_across.proofs.stream_laws.empty_is_alone.Goals as goal

pub returns : goal.returns
returns c = λ r s limit w lawful h. alone r s limit lawful w h
