use Rattle.std.proofs.Common.{◌≡◌, ◌∙◌, ap, sym, subst, true, IfSome, ℕ}
use Rattle.asn1_schema_constraints.specs.Bounds.{admits_count, are_admitting}
use Rattle.asn1_schema_constraints.proofs.Common.{count_common_admits, count_common_some}
use Rattle.asn1_schema_constraints.proofs.bounds.Bounded+usize.intersect.Goals as goal

pub returns-clause-admits : goal.returns-clause-admits
returns-clause-admits c = λ n. ap (λ r. are_admitting admits_count r n) c.common.ensures ∙ count_common_admits c.args.self.now c.args.other n

pub returns-clause-some : goal.returns-clause-some
returns-clause-some c = subst (λ r. IfSome r (λ b. (n : ℕ) × (admits_count b n ≡ true))) (sym c.common.ensures) (count_common_some c.args.self.now c.args.other)
