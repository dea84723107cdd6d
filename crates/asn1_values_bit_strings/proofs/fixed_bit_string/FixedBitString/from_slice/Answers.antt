use Rattle.std.proofs.Common.{arith}
use Rattle.asn1_model.specs.Numbers.{octet_bits}
use Rattle.asn1_values_bits.specs.BitStr.{bits_of}
use Rattle.asn1_values_bits.proofs.Binary.{length-octet_bits}
use Rattle.asn1_values_bit_strings.proofs.Fixing.{fill_kept, fill_view}
use Rattle.asn1_values_bit_strings.proofs.fixed_bit_string.FixedBitString.from_slice.Goals as goal

pub invariant_of-result : goal.invariant_of-result
invariant_of-result g c = fill_kept c.fill.new.octets g.row.N (bits_of c.front_of.result) (octet_bits c.args.octets.now) c.fill.ensures.octets
    c.fill.ensures.bits c.front_of.ensures.bits (omega (arith, length-octet_bits c.args.octets.now))

pub returns-clause-bits : goal.returns-clause-bits
returns-clause-bits g c = fill_view c.fill.new.octets g.row.N (bits_of c.front_of.result) (octet_bits c.args.octets.now) c.fill.ensures.bits
    c.front_of.ensures.bits (omega (arith, length-octet_bits c.args.octets.now))
