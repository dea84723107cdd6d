use Rattle.asn1_schema_laws.proofs.Groups.{group_addition}
use Rattle.asn1_schema_laws.proofs.addition_laws.groups_are_typed.Goals as goal

pub returns : goal.returns
returns c = λ t g h k. group_addition g h k
