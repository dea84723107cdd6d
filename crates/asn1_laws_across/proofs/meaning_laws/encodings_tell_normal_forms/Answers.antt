use Rattle.asn1_laws_across.proofs.Across.{tell_normal}
use Rattle.asn1_laws_across.proofs.meaning_laws.encodings_tell_normal_forms.Goals as goal

pub returns : goal.returns
returns c = λ r s v u a b l e f. tell_normal r s v u a b l e f
