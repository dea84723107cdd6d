use Rattle.std.proofs.Common.{refl}
use Rattle.asn1_table_extending.proofs.Refused.{untrue}
use Rattle.asn1_table_extending.proofs.constraints.check_limits.Goals as goal

pub returns-then-not-are_same_limits-clause-refused : goal.returns-then-not-are_same_limits-clause-refused
returns-then-not-are_same_limits-clause-refused c = (refl, λ m. untrue _ c.are_same_limits.ensures.1 c.if-not-are_same_limits.true m)
