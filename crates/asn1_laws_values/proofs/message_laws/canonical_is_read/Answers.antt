use Rattle.asn1_laws_values.proofs.Messages.{canonical_is_read}
use Rattle.asn1_laws_values.proofs.message_laws.canonical_is_read.Goals as goal

pub returns : goal.returns
returns c = λ r s v w e. canonical_is_read r s v w e
