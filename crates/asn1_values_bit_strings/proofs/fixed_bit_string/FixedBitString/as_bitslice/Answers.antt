use Rattle.std.proofs.Common.{◌∙◌, ap, arith, length}
use Rattle.std.proofs.lemmas.List.{length-take-le}
use Rattle.asn1_model.specs.Numbers.{octet_bits}
use Rattle.asn1_values_bits.proofs.Binary.{length-octet_bits}
use Rattle.asn1_values_bit_strings.proofs.fixed_bit_string.FixedBitString.as_bitslice.Goals as goal

pub returns-clause-fixed : goal.returns-clause-fixed
returns-clause-fixed g c = ap length c.front_of.ensures.bits ∙ length-take-le g.row.N (octet_bits c.self.inside.octets) (omega (arith, length-octet_bits c.self.inside.octets, c.self.told))
