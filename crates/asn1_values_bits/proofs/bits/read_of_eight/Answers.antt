use Rattle.std.proofs.Common.{◌≡◌, ℕ, ◌-◌, ◌*◌, ◌/◌, ◌%◌, ◌^◌, ◌<◌, ap, ◌∙◌, arith, bit_and}
use Rattle.std.proofs.lemmas.Nat.{one_shl, and_mask, mod_below, pow_pos}
use Rattle.asn1_model.specs.Numbers.{binary, octet_bits}
use Rattle.asn1_values_bits.proofs.Binary.{binary_low}
use Rattle.asn1_values_bits.proofs.Window.{inside_read}
use Rattle.asn1_values_bits.proofs.bits.read_of_eight.Goals as goal

low_digits : (c n : ℕ) → c < 64 → bit_and n (1 * 2 ^ c % 2 ^ 64 - 1) ≡ n % 2 ^ c
low_digits c n h = ap (λ x. bit_and n (x - 1)) (one_shl c 64 h) ∙ and_mask n c

pub returns-clause-fits : goal.returns-clause-fits
returns-clause-fits c =
    let n : ℕ = c.args.count in
    let k : ℕ = c.eight_octets-eight.result / 2 ^ (64 - c.args.position % 8 - n) in
    rw (low_digits n k (omega arith)) (mod_below k (2 ^ n) (pow_pos n))

pub returns-clause-digits : goal.returns-clause-digits
returns-clause-digits c =
    let p : ℕ = c.args.position in
    let o : ℕ = p % 8 in
    let n : ℕ = c.args.count in
    let past : ℕ = 64 - o - n in
    let f : ℕ = c.eight_octets-eight.result in
    ap (binary n) (low_digits n (f / 2 ^ past) (omega arith)) ∙ binary_low n (f / 2 ^ past)
    ∙ inside_read (octet_bits c.args.octets.now) p (p / 8) o n past 64 f (omega arith) (omega arith) c.eight_octets-eight.ensures
