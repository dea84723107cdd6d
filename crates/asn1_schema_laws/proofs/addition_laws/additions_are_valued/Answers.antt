use Rattle.asn1_schema_laws.proofs.Additions.{extensible_values}
use Rattle.asn1_schema_laws.proofs.addition_laws.additions_are_valued.Goals as goal

pub returns : goal.returns
returns c = λ fs qs h. extensible_values h
