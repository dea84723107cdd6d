use Rattle.std.proofs.Common.{ap}
use Rattle.std.proofs.Common.{◌*◌}
use Rattle.asn1_values_identifiers.proofs.Counts.{group_bits_one, group_bits_more}
use Rattle.asn1_values_identifiers.proofs.groups.group_number.Goals as goal

pub returns-then-number-lt128-clause-bits : goal.returns-then-number-lt128-clause-bits
returns-then-number-lt128-clause-bits c = group_bits_one c.args.number c.if-number-lt128.true

pub returns-clause-bits : goal.returns-clause-bits
returns-clause-bits c = group_bits_more c.args.number c.leading_number.result (8 * c.group_count.result) c.if-number-lt128.false
    (ap (λ k. 8 * k) c.group_count.ensures.groups) c.leading_number.ensures.bits
