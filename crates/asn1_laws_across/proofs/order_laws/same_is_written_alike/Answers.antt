use Rattle.asn1_laws_across.proofs.Canonical.{same_written}
use Rattle.asn1_laws_across.proofs.order_laws.same_is_written_alike.Goals as goal

pub returns : goal.returns
returns c = λ r s v w l e. same_written r s v w l e
