use Rattle.asn1_laws_across.proofs.Streams.{begins}
use Rattle.asn1_laws_across.proofs.stream_laws.begins_alike.Goals as goal

pub returns : goal.returns
returns c = λ r s limit ms all rest other w x h f g. begins r s limit h ms all rest other w x f g
