use Rattle.std.proofs.Common.{leb, ap}
use Rattle.asn1_schema_constraints.proofs.Meets.{meet_commutes}
use Rattle.asn1_schema_constraints.proofs.Common.{count_order}
use Rattle.asn1_schema_constraints.proofs.SetLaws.{sizes_group}
use Rattle.asn1_schema_constraints.proofs.laws.sizes_intersect.Goals as goal

pub returns-clause-commute : goal.returns-clause-commute
returns-clause-commute c = λ a b. ap (λ bounds. record { range = bounds }) (meet_commutes leb count_order a.range b.range)

pub returns-clause-associate : goal.returns-clause-associate
returns-clause-associate c = sizes_group
