use Rattle.asn1_laws_across.proofs.Streams.{goes_on}
use Rattle.asn1_laws_across.proofs.stream_laws.goes_on_alike.Goals as goal

pub returns : goal.returns
returns c = λ r s limit ms ns rest other w x f g. goes_on r s limit ms ns rest other w x f g
