use Rattle.std.proofs.Common.{refl}
use Rattle.asn1_table_extending.proofs.Refused.{untrue}
use Rattle.asn1_table_extending.proofs.constraints.check_sizes.Goals as goal

pub returns-then-not-are_same_sizes-clause-refused : goal.returns-then-not-are_same_sizes-clause-refused
returns-then-not-are_same_sizes-clause-refused c = (refl, λ m. untrue _ c.are_same_sizes.ensures.1 c.if-not-are_same_sizes.true m)
