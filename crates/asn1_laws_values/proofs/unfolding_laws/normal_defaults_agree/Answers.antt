use Rattle.std.proofs.Common.{sym, ◌∙◌}
use Rattle.asn1_laws_values.proofs.Normal.{normal_stays}
use Rattle.asn1_laws_values.proofs.unfolding_laws.normal_defaults_agree.Goals as goal

pub returns : goal.returns
returns c = λ s s' d h k. normal_stays s d h ∙ sym (normal_stays s' d k)
