use Rattle.asn1_laws_values.proofs.TidiedLawful.{tidied_is_lawful}
use Rattle.asn1_laws_values.proofs.unfolding_laws.tidied_is_lawful.Goals as goal

pub returns : goal.returns
returns c = λ s l. tidied_is_lawful s l
