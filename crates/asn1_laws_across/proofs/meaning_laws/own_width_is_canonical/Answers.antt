use Rattle.asn1_laws_across.proofs.Strictly.{is_encoding}
use Rattle.asn1_laws_across.proofs.InOrder.{own_width_as_written, own_width, in_order_of_own_width}
use Rattle.asn1_laws_across.proofs.meaning_laws.own_width_is_canonical.Goals as goal

pub returns : goal.returns
returns c = λ r s v w. (λ h. is_encoding r s v w (own_width_as_written r s v w h), own_width r s v w, in_order_of_own_width r s v w)
