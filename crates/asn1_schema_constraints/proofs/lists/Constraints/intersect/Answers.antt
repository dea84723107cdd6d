use Rattle.std.proofs.Common.{◌∙◌, ap}
use Rattle.asn1_schema_constraints.specs.Bounds.{admits_number, admits_count}
use Rattle.asn1_schema_constraints.specs.Sets.{root_passes}
use Rattle.asn1_schema_constraints.proofs.SetLaws.{both_admit_number, both_admit_count}
use Rattle.asn1_schema_constraints.proofs.lists.Constraints.intersect.Goals as goal

pub returns-clause-numbers : goal.returns-clause-numbers
returns-clause-numbers c = λ v. ap (root_passes (λ root. admits_number root.value v)) c.values_in_turn.ensures ∙ both_admit_number c.args.self.now c.args.rhs v

pub returns-clause-sizes : goal.returns-clause-sizes
returns-clause-sizes c = λ n. ap (root_passes (λ root. admits_count root.range n)) c.sizes_in_turn.ensures ∙ both_admit_count c.args.self.now c.args.rhs n
