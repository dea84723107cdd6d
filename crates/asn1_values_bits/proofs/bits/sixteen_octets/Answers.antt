use Rattle.std.proofs.Common.{◌≡◌, ◌+◌, ◌*◌, ℕ, arith, ap, ◌∙◌, take, drop}
use Rattle.asn1_model.specs.Numbers.{binary, octet_bits}
use Rattle.asn1_values_bits.proofs.Reading.{wide_is, wide_read}
use Rattle.asn1_values_bits.proofs.bits.sixteen_octets.Goals as goal

pub returns : goal.returns
returns c =
    let h : ℕ = c.eight_octets-high.result in
    let l : ℕ = c.eight_octets-low.result in
    let second : (c.args.start + 8) * 8 ≡ c.args.start * 8 + 64 = omega arith in
    ap (binary 128) (wide_is 64 h l (omega arith) (omega arith) (omega arith))
    ∙ wide_read (octet_bits c.args.octets.now) (c.args.start * 8) 64 h l (omega arith) c.eight_octets-high.ensures
    (c.eight_octets-low.ensures ∙ ap (λ k. take 64 (drop k (octet_bits c.args.octets.now))) second)
