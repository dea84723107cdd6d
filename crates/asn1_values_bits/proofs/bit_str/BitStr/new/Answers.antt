use Rattle.std.proofs.Common.{refl}
use Rattle.asn1_values_bits.specs.BitStr.{bits_of, offset_of}
use Rattle.asn1_values_bits.proofs.bit_str.BitStr.new.Goals as goal

pub returns-clause-bits : goal.returns-clause-bits
unfolding bits_of
returns-clause-bits c = refl

pub returns-clause-offset : goal.returns-clause-offset
unfolding offset_of
returns-clause-offset c = refl
