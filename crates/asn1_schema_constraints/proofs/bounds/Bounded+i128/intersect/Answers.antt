use Rattle.std.proofs.Common.{◌≡◌, ◌∙◌, ap, sym, subst, true, IfSome, ℤ}
use Rattle.asn1_schema_constraints.specs.Bounds.{admits_number, are_admitting}
use Rattle.asn1_schema_constraints.proofs.Common.{number_common_admits, number_common_some}
use Rattle.asn1_schema_constraints.proofs.bounds.Bounded+i128.intersect.Goals as goal

pub returns-clause-admits : goal.returns-clause-admits
returns-clause-admits c = λ v. ap (λ r. are_admitting admits_number r v) c.common.ensures ∙ number_common_admits c.args.self.now c.args.other v

pub returns-clause-some : goal.returns-clause-some
returns-clause-some c = subst (λ r. IfSome r (λ b. (v : ℤ) × (admits_number b v ≡ true))) (sym c.common.ensures) (number_common_some c.args.self.now c.args.other)
