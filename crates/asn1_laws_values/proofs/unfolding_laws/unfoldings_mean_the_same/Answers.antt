use Rattle.asn1_laws_values.specs.Unfolding.{unfolded}
use Rattle.asn1_laws_values.proofs.Unfolding.{means_the_same}
use Rattle.asn1_laws_values.proofs.Recursive.{unfoldings_agree}
use Rattle.asn1_laws_values.proofs.unfolding_laws.unfoldings_mean_the_same.Goals as goal

pub returns : goal.returns
returns g c = λ r step k n i j v w h l l' a b d. means_the_same r n (unfolded step i k) (unfolded step j k) v w l l' (unfoldings_agree step n i j h a b k) d
