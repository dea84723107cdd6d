use Rattle.asn1_laws_values.proofs.Recursive.{unfoldings_agree}
use Rattle.asn1_laws_values.proofs.unfolding_laws.unfoldings_agree.Goals as goal

pub returns : goal.returns
returns g c = λ step k n i j h a b. unfoldings_agree step n i j h a b k
