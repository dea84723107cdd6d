use Rattle.asn1_laws_values.proofs.Equal.{equal_is}
use Rattle.asn1_laws_values.proofs.typed_laws.equal_if_normal_forms_are.Goals as goal

pub returns : goal.returns
returns c = equal_is
