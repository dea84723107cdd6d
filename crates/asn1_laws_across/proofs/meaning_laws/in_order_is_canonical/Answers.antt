use Rattle.asn1_laws_across.proofs.Strictly.{is_encoding}
use Rattle.asn1_laws_across.proofs.InOrder.{in_order_as_written, in_order, canonical_in}
use Rattle.asn1_laws_across.proofs.meaning_laws.in_order_is_canonical.Goals as goal

pub returns : goal.returns
returns c = λ r s v w. (λ h. is_encoding r s v w (in_order_as_written r s v w h), in_order r s v w, canonical_in r s v w)
