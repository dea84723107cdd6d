use Rattle.asn1_laws_across.proofs.Across.{detours}
use Rattle.asn1_laws_across.proofs.meaning_laws.detours_change_nothing.Goals as goal

pub returns : goal.returns
returns c = λ p r s v u b l e f. detours p r s v u b l e f
