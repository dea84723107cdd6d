use Rattle.std.proofs.Common.{ap}
use Rattle.asn1_model.specs.Numbers.{is_at_most}
use Rattle.asn1_schema_constraints.proofs.Meets.{meet_commutes}
use Rattle.asn1_schema_constraints.proofs.Common.{number_order}
use Rattle.asn1_schema_constraints.proofs.SetLaws.{values_group}
use Rattle.asn1_schema_constraints.proofs.laws.values_intersect.Goals as goal

pub returns-clause-commute : goal.returns-clause-commute
returns-clause-commute c = λ a b. ap (λ bounds. record { value = bounds }) (meet_commutes is_at_most number_order a.value b.value)

pub returns-clause-associate : goal.returns-clause-associate
returns-clause-associate c = values_group
