use Rattle.asn1_laws_across.proofs.Across.{one_meaning}
use Rattle.asn1_laws_across.proofs.meaning_laws.one_meaning.Goals as goal

pub returns : goal.returns
returns c = λ q r s v u w l f g. one_meaning q r s v u w l f g
