use Rattle.asn1_laws_values.proofs.Tidied.{nothing_lost}
use Rattle.asn1_laws_values.proofs.unfolding_laws.normal_defaults_lose_nothing.Goals as goal

pub returns : goal.returns
returns c = nothing_lost
