use Rattle.asn1_values_bits.specs.Appending.{appended}
use Rattle.asn1_values_bits.proofs.bit_appender.BitAppender.drop.Goals as goal

pub returns : goal.returns
unfolding appended
returns c = c.truncate.ensures
