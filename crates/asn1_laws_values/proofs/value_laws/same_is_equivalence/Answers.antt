use Rattle.asn1_laws_values.proofs.Same.{same_self, same_turned, same_chained}
use Rattle.asn1_laws_values.proofs.value_laws.same_is_equivalence.Goals as goal

pub returns : goal.returns
returns c = (same_self, same_turned, same_chained)
