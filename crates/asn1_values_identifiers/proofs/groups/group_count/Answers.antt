use Rattle.std.proofs.Common.{sym}
use Rattle.asn1_values_identifiers.proofs.Counts.{one_group, two_groups, three_groups, four_groups, five_groups}
use Rattle.asn1_values_identifiers.proofs.groups.group_count.Goals as goal

pub returns-then-number-lt128-clause-groups : goal.returns-then-number-lt128-clause-groups
returns-then-number-lt128-clause-groups c = sym (one_group c.args.number c.if-number-lt128.true)

pub returns-then-number-lt16384-clause-groups : goal.returns-then-number-lt16384-clause-groups
returns-then-number-lt16384-clause-groups c = sym (two_groups c.args.number c.if-number-lt128.false c.if-number-lt16384.true)

pub returns-then-number-lt2097152-clause-groups : goal.returns-then-number-lt2097152-clause-groups
returns-then-number-lt2097152-clause-groups c = sym (three_groups c.args.number c.if-number-lt16384.false c.if-number-lt2097152.true)

pub returns-then-number-lt268435456-clause-groups : goal.returns-then-number-lt268435456-clause-groups
returns-then-number-lt268435456-clause-groups c = sym (four_groups c.args.number c.if-number-lt2097152.false c.if-number-lt268435456.true)

pub returns-else-number-lt268435456-clause-groups : goal.returns-else-number-lt268435456-clause-groups
returns-else-number-lt268435456-clause-groups c = sym (five_groups c.args.number c.if-number-lt268435456.false c.requires)
