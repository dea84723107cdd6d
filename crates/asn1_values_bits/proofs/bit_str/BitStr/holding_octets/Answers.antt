use Rattle.std.proofs.Common.{◌≡◌, ◌+◌, ◌-◌, ◌/◌, ◌%◌, ℕ, List, ap, ◌∙◌, arith, take, drop, length}
use Rattle.asn1_model.specs.Numbers.{octet_bits}
use Rattle.asn1_values_bits.specs.BitStr.{bits_of}
use Rattle.asn1_values_bits.proofs.Views.{held, length-bits_of}
use Rattle.asn1_values_bits.proofs.bit_str.BitStr.holding_octets.Goals as goal

pub returns-clause-bits : goal.returns-clause-bits
unfolding bits_of
returns-clause-bits c =
    let first : ℕ = c.args.self.now.first in
    let len : ℕ = c.args.self.now.len in
    let os : List ℕ = c.args.self.now.octets.now in
    let count : ℕ = len / 8 + (len % 8 + 7) / 8 in
    let cut : first / 8 + count - first / 8 ≡ count = omega arith in
    let long : length (take len (drop first (octet_bits os))) ≡ len = length-bits_of c.args.self.now in
    ap (λ n. take n (octet_bits (take (first / 8 + count - first / 8) (drop (first / 8) os)))) long
    ∙ ap (λ k. take len (octet_bits (take k (drop (first / 8) os)))) cut
    ∙ held os first len (first / 8) count c.args.self.now.within (omega arith) (omega arith)
