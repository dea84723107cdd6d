use Rattle.std.proofs.Common.{◌∙◌, ap}
use Rattle.asn1_schema_constraints.specs.Bounds.{admits_number}
use Rattle.asn1_schema_constraints.proofs.Common.{number_meet_admits}
use Rattle.asn1_schema_constraints.proofs.parts.Value.intersect.Goals as goal

pub returns-clause-admits : goal.returns-clause-admits
returns-clause-admits c = λ v. ap (λ b. admits_number b v) c.joined.ensures ∙ number_meet_admits c.args.self.now.value c.args.other.now.value v
