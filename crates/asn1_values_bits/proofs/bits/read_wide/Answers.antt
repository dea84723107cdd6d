use Rattle.std.proofs.Common.{◌≡◌, ◌+◌, ◌-◌, ◌*◌, ◌%◌, ◌^◌, ℕ, arith, ap, sym, ◌∙◌, take, drop, bit_or}
use Rattle.asn1_model.specs.Numbers.{binary, octet_bits}
use Rattle.asn1_values_bits.proofs.Reading.{wide_is, wide_small, wide_read}
use Rattle.asn1_values_bits.proofs.bits.read_wide.Goals as goal

pub returns-clause-digits : goal.returns-clause-digits
returns-clause-digits c =
    let w : ℕ = c.args.count - 64 in
    let all : w + 64 ≡ c.args.count = omega arith in
    let h : ℕ = c.read_apart-high.result in
    let l : ℕ = c.read_apart-low.result in
    ap (binary c.args.count) (wide_is w h l c.read_apart-high.ensures.fits (omega arith) c.read_apart-low.ensures.fits)
    ∙ ap (λ k. binary k (h * 2 ^ 64 + l)) (sym all)
    ∙ wide_read (octet_bits c.args.octets.now) c.args.position w h l c.read_apart-low.ensures.fits c.read_apart-high.ensures.digits c.read_apart-low.ensures.digits
    ∙ ap (λ k. take k (drop c.args.position (octet_bits c.args.octets.now))) all

pub returns-clause-fits : goal.returns-clause-fits
returns-clause-fits c =
    let w : ℕ = c.args.count - 64 in
    let all : w + 64 ≡ c.args.count = omega arith in
    let joined : bit_or (c.read_apart-high.result * 2 ^ 64 % 2 ^ 128) c.read_apart-low.result ≡ c.read_apart-high.result * 2 ^ 64 +
    c.read_apart-low.result = wide_is w c.read_apart-high.result c.read_apart-low.result c.read_apart-high.ensures.fits (omega arith) c.read_apart-low.ensures.fits in
    rw (joined, ← all) (wide_small w c.read_apart-high.result c.read_apart-low.result c.read_apart-high.ensures.fits c.read_apart-low.ensures.fits)
