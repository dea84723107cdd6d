use Rattle.asn1_laws_values.proofs.Carried.{tidied_grows, tidied_drops}
use Rattle.asn1_laws_values.proofs.unfolding_laws.tidied_carries_alike.Goals as goal

pub returns : goal.returns
returns c = λ s t v. (tidied_grows s t v, tidied_drops s t v)
