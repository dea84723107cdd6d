use Rattle.asn1_laws_values.proofs.Typed.{normal_is_of}
use Rattle.asn1_laws_values.proofs.typed_laws.normal_keeps_the_type.Goals as goal

pub returns : goal.returns
returns c = normal_is_of
