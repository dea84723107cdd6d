use Rattle.std.proofs.Common.{◌≡◌, ◌-◌, ap, sym, ◌∙◌, arith, set, true, false}
use Rattle.asn1_model.specs.Numbers.{binary}
use Rattle.asn1_values_bits.proofs.Change.{raised, lowered}
use Rattle.asn1_values_bits.proofs.bit_buffer.with_bit.Goals as goal

pub returns-then-bit : goal.returns-then-bit
returns-then-bit c =
    let place : 8 - 1 - (7 - c.args.index) ≡ c.args.index = omega arith in
    raised c.args.octet (7 - c.args.index) (omega arith) ∙ ap (λ k. set (binary 8 c.args.octet) k true) place ∙ ap (set (binary 8 c.args.octet) c.args.index) (sym c.if-bit.true)

pub returns-else-bit : goal.returns-else-bit
returns-else-bit c =
    let place : 8 - 1 - (7 - c.args.index) ≡ c.args.index = omega arith in
    lowered c.args.octet (7 - c.args.index) (omega arith) ∙ ap (λ k. set (binary 8 c.args.octet) k false) place ∙ ap (set (binary 8 c.args.octet) c.args.index) (sym c.if-bit.false)
