use Rattle.asn1_schema_laws.proofs.Additions.{extensible_types}
use Rattle.asn1_schema_laws.proofs.addition_laws.additions_are_typed.Goals as goal

pub returns : goal.returns
returns c = λ fs h. extensible_types h
