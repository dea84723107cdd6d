use Rattle.asn1_laws_across.proofs.Streams.{once}
use Rattle.asn1_laws_across.proofs.stream_laws.divided_once.Goals as goal

pub returns : goal.returns
returns c = λ r s limit ms ns rest other w h f g. once r s limit h ms ns rest other w f g
