use Rattle.asn1_laws_values.proofs.TidiedLawful.{tidied_is_of}
use Rattle.asn1_laws_values.proofs.unfolding_laws.tidied_keeps_values.Goals as goal

pub returns : goal.returns
returns c = λ s v. tidied_is_of s v
