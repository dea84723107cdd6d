use Rattle.std.proofs.Common.{◌∙◌, ap}
use Rattle.asn1_schema_constraints.specs.Bounds.{admits_count}
use Rattle.asn1_schema_constraints.proofs.Common.{count_meet_admits}
use Rattle.asn1_schema_constraints.proofs.parts.Size.intersect.Goals as goal

pub returns-clause-admits : goal.returns-clause-admits
returns-clause-admits c = λ n. ap (λ b. admits_count b n) c.joined.ensures ∙ count_meet_admits c.args.self.now.range c.args.other.now.range n
