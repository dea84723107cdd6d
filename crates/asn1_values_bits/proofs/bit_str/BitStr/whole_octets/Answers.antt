use Rattle.std.proofs.Common.{◌≡◌, ◌+◌, ◌-◌, ◌/◌, ◌*◌, ◌%◌, ◌++◌, ap, ◌∙◌, arith, take, drop}
use Rattle.asn1_model.specs.Numbers.{octet_bits}
use Rattle.asn1_values_bits.specs.BitStr.{bits_of}
use Rattle.asn1_values_bits.proofs.Views.{whole_and_rest}
use Rattle.asn1_values_bits.proofs.bit_str.BitStr.whole_octets.Goals as goal

pub returns : goal.returns
unfolding bits_of
returns c =
    let first = c.args.self.now.first in
    let len = c.args.self.now.len in
    let os = c.args.self.now.octets.now in
    let n : first / 8 + len / 8 - first / 8 ≡ len / 8 = omega arith in
    ap (λ k. octet_bits (take k (drop (first / 8) os)) ++ take (len % 8) (drop (first + len / 8 * 8) (octet_bits os))) n
    ∙ whole_and_rest os first len (first / 8) (len / 8) c.args.self.now.within (omega arith) (omega arith)
