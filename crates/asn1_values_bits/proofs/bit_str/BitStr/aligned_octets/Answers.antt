use Rattle.std.proofs.Common.{◌≡◌, ◌+◌, ◌-◌, ◌/◌, ◌*◌, ap, ◌∙◌, arith, take, drop, refl}
use Rattle.asn1_model.specs.Numbers.{octet_bits}
use Rattle.asn1_values_bits.specs.BitStr.{bits_of, offset_of}
use Rattle.asn1_values_bits.proofs.Views.{octets_at, length-bits_of}
use Rattle.asn1_values_bits.proofs.bit_str.BitStr.aligned_octets.Goals as goal
use Rattle.asn1_values_bits.proofs.bit_str.BitStr.aligned_octets.Goals.{then-self-gt0-via-then-self-gt0, then-self-gt0-via-else-self-gt0+then-self-gt0-2}

pub returns-then-self-gt0-clause-aligned : goal.returns-then-self-gt0-clause-aligned
unfolding offset_of
returns-then-self-gt0-clause-aligned c = (
  λ e. absurd (cc),
  λ h. elim c.then-self-gt0.branch [
    | then-self-gt0-via-then-self-gt0 w ↦ absurd (omega (arith, h.0))
    | then-self-gt0-via-else-self-gt0+then-self-gt0-2 w ↦ absurd (omega (arith, h.1, length-bits_of c.args.self.now))
  ],
)

pub returns-clause-aligned : goal.returns-clause-aligned
unfolding offset_of
returns-clause-aligned c = (λ e. (omega arith, omega (arith, length-bits_of c.args.self.now)), λ h. refl)

pub returns-clause-octets : goal.returns-clause-octets
unfolding bits_of
returns-clause-octets c =
    let first = c.args.self.now.first in
    let len = c.args.self.now.len in
    let os = c.args.self.now.octets.now in
    let count : first / 8 + len / 8 - first / 8 ≡ len / 8 = omega arith in
    let start : first / 8 * 8 ≡ first = omega arith in
    let all : len / 8 * 8 ≡ len = omega arith in
    ap (λ k. octet_bits (take k (drop (first / 8) os))) count
    ∙ octets_at os (first / 8) (len / 8) (omega (arith, c.args.self.now.within))
    ∙ ap (λ k. take (len / 8 * 8) (drop k (octet_bits os))) start
    ∙ ap (λ k. take k (drop first (octet_bits os))) all
