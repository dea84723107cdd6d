use Rattle.std.proofs.Common.{◌*◌, arith, refl, length}
use Rattle.std.proofs.lemmas.List.{take_all}
use Rattle.asn1_model.specs.Numbers.{octet_bits}
use Rattle.asn1_values_bits.specs.BitStr.{bits_of, offset_of}
use Rattle.asn1_values_bits.proofs.Binary.{length-octet_bits}
use Rattle.asn1_values_bits.proofs.bit_str.BitStr.from_slice.Goals as goal

pub returns-clause-bits : goal.returns-clause-bits
unfolding bits_of
returns-clause-bits c = take_all (length c.args.octets.now * 8) (octet_bits c.args.octets.now) (omega (arith, length-octet_bits c.args.octets.now))

pub returns-clause-offset : goal.returns-clause-offset
unfolding offset_of
returns-clause-offset c = refl
