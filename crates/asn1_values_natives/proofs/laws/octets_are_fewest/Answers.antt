use Rattle.std.proofs.Common.{sym}
use Rattle.asn1_model.specs.Numbers.{signed_octets}
use Rattle.asn1_values_natives.proofs.TwosComplement.{written-least, length-complement, written-kept, written-fewest}
use Rattle.asn1_values_natives.proofs.laws.octets_are_fewest.Goals as goal

pub returns-clause-fewest : goal.returns-clause-fewest
returns-clause-fewest c = written-least

pub returns-clause-count : goal.returns-clause-count
returns-clause-count c = λ z. length-complement (signed_octets z) z

pub returns-clause-kept : goal.returns-clause-kept
returns-clause-kept c = λ os h n e. sym (written-kept os h e n)

pub returns-clause-bare : goal.returns-clause-bare
returns-clause-bare c = written-fewest
