use Rattle.std.proofs.Common.{length, ap, arith}
use Rattle.std.proofs.lemmas.List.{length-take}
use Rattle.asn1_model.specs.Numbers.{octet_bits}
use Rattle.asn1_values_bits.specs.BitStr.{bits_of}
use Rattle.asn1_values_bits.proofs.Binary.{length-octet_bits}
use Rattle.oer_codec_writing.proofs.bit_string.push_bits.Goals as goal

pub push_first_bits-requires : goal.push_first_bits-requires
push_first_bits-requires c =
    let bits = octet_bits c.in-Some.held.now in
    omega (arith, ap length c.in-Some.ensures.bits, length-take (length (bits_of c.args.value)) bits, length-octet_bits c.in-Some.held.now, c.len.ensures)
