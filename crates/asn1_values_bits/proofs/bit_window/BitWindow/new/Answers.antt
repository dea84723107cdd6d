use Rattle.asn1_values_bits.specs.BitWindow.{shown}
use Rattle.asn1_values_bits.proofs.bit_window.BitWindow.new.Goals as goal

pub returns-clause-front : goal.returns-clause-front
unfolding shown
returns-clause-front c = c.first_octets-number.ensures.bits
