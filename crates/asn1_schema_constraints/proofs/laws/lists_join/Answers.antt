use Rattle.asn1_schema_constraints.proofs.SetLaws.{both_groups, all_of_joined}
use Rattle.asn1_schema_constraints.proofs.laws.lists_join.Goals as goal

pub returns-clause-associate : goal.returns-clause-associate
returns-clause-associate c = both_groups

pub returns-clause-joined : goal.returns-clause-joined
returns-clause-joined c = all_of_joined
