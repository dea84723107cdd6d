use Rattle.std.proofs.Common.{◌≡◌, ℕ, ◌+◌, ◌-◌, ap, arith, ◌∙◌, ◌++◌}
use Rattle.asn1_model.specs.Numbers.{binary}
use Rattle.asn1_values_bits.proofs.Kept.{next_digits, grown}
use Rattle.asn1_values_bits.proofs.bit_buffer.BitBuffer.fill_octet.Goals as goal

pub returns-clause-bits : goal.returns-clause-bits
returns-clause-bits c =
    let few : ℕ = c.min-few.result in
    let rest : ℕ = c.args.width - few in
    let e : few + rest ≡ c.args.width = omega (arith, c.min-few.ensures) in
    ap (λ l. l ++ binary rest c.args.value) c.in_ok-push_few.ensures.ok ∙
    next_digits 128 c.args.self.now rest few c.args.value (omega (arith, c.min-few.ensures, c.free_bits.ensures)) ∙ ap (λ k. c.args.self.now ++ binary k c.args.value) e

pub returns-clause-whole : goal.returns-clause-whole
returns-clause-whole c some = omega (arith, c.min-few.ensures, c.free_bits.ensures, c.len.ensures, grown c.push_few.new.self c.args.self.now c.min-few.result _ c.in_ok-push_few.ensures.ok)
