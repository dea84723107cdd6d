use Rattle.std.proofs.Common.{◌≡◌, ◌∙◌, ap, arith}
use Rattle.std.proofs.lemmas.Grind.{common_steps}
use Rattle.asn1_schema_constraints.specs.Sets.{all_of, admit_number, admit_count}
use Rattle.asn1_schema_constraints.proofs.SetLaws.{all_admit_number, all_admit_count}
use Rattle.asn1_schema_constraints.proofs.lists.Constraints.new.Goals as goal

pub returns-clause-numbers : goal.returns-clause-numbers
returns-clause-numbers c =
    let all : c.loop-constraint.all ≡ all_of c.args.constraints.now = grind (arith, common_steps) in
    λ v. ap (λ x. admit_number x v) all ∙ all_admit_number c.args.constraints.now v

pub returns-clause-sizes : goal.returns-clause-sizes
returns-clause-sizes c =
    let all : c.loop-constraint.all ≡ all_of c.args.constraints.now = grind (arith, common_steps) in
    λ n. ap (λ x. admit_count x n) all ∙ all_admit_count c.args.constraints.now n
