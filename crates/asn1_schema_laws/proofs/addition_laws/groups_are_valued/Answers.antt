use Rattle.std.proofs.Common.{refl}
use Rattle.asn1_schema_laws.proofs.Groups.{group_kept}
use Rattle.asn1_schema_laws.proofs.addition_laws.groups_are_valued.Goals as goal
use Rattle.asn1_model.specs.Value.{are_absent}

pub returns : goal.returns
returns c = λ t ps g h. group_kept g h (are_absent ps) refl
