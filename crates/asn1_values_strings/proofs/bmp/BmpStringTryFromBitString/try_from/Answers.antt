use Rattle.std.proofs.Common.{rules, arith, ◌≡◌, ◌%◌, length}
use Rattle.std.specs.Prelude.{flat_map, IfOk}
use Rattle.asn1_model.specs.Numbers.{digits, octet_bits}
use Rattle.asn1_values_bits.specs.Octets.{padded}
use Rattle.asn1_values_strings.proofs.Bits.{pairs_of_bits}
use Rattle.asn1_values_strings.proofs.bmp.BmpStringTryFromBitString.try_from.Goals as goal

pub returns : goal.returns
returns c =
    let whole : length c.args.bits % 16 ≡ 0 = omega (arith, c.len.ensures) in
    let octets : octet_bits c.as_slice.result.now ≡ padded c.args.bits = search rules in
    let made : IfOk c.from_bytes.result (λ s. octet_bits (flat_map (digits 256 2) s) ≡ c.args.bits) = search rules in
    pairs_of_bits c.from_bytes.result _ c.args.bits c.as_slice.result.now octets whole made c.from_bytes.ensures.refused
