use Rattle.asn1_laws_values.proofs.Unfolding.{means_the_same}
use Rattle.asn1_laws_values.proofs.unfolding_laws.means_the_same.Goals as goal

pub returns : goal.returns
returns c = λ r n s s' v w l l' h d. means_the_same r n s s' v w l l' h d
