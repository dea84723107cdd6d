use Rattle.asn1_values_identifiers.proofs.groups.+push_leading.Given as goal

abbrev pub decreases-push_leading : goal.decreases-push_leading
decreases-push_leading l = l.number
