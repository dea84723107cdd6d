use Rattle.asn1_values_identifiers.proofs.groups.+leading_number.Given as goal

abbrev pub decreases-leading_number : goal.decreases-leading_number
decreases-leading_number l = l.number
