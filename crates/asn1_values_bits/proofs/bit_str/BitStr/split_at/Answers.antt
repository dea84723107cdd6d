use Rattle.std.proofs.Common.{◌≡◌, ◌≤◌, ◌+◌, ◌-◌, sym, ap, ◌∙◌, arith, take, drop, refl}
use Rattle.std.proofs.lemmas.List.{take-take, drop-take, drop-drop}
use Rattle.asn1_model.specs.Numbers.{octet_bits}
use Rattle.asn1_values_bits.specs.BitStr.{bits_of, offset_of}
use Rattle.asn1_values_bits.proofs.Views.{length-bits_of}
use Rattle.asn1_values_bits.proofs.bit_str.BitStr.split_at.Goals as goal

pub overflow_add-rest : goal.overflow_add-rest
overflow_add-rest c = record { fits = omega (arith, length-bits_of c.args.self.now) }

pub overflow_sub-rest : goal.overflow_sub-rest
overflow_sub-rest c = omega (arith, length-bits_of c.args.self.now)

pub invariant_of-front : goal.invariant_of-front
invariant_of-front c = record { within = omega (arith, length-bits_of c.args.self.now); short = omega (arith, length-bits_of c.args.self.now) }

pub returns-clause-front : goal.returns-clause-front
unfolding bits_of
returns-clause-front c =
    let l : c.args.count ≤ c.args.self.now.len = omega (arith, length-bits_of c.args.self.now) in
    sym (take-take c.args.count c.args.self.now.len (drop c.args.self.now.first (octet_bits c.args.self.now.octets.now)) l)

pub returns-clause-front_offset : goal.returns-clause-front_offset
unfolding offset_of
returns-clause-front_offset c = refl

pub returns-clause-rest : goal.returns-clause-rest
unfolding bits_of
returns-clause-rest c =
    let n : c.args.count + (c.args.self.now.len - c.args.count) ≡ c.args.self.now.len = omega (arith, length-bits_of c.args.self.now) in
    ap (take (c.args.self.now.len - c.args.count)) (sym (drop-drop c.args.count c.args.self.now.first (octet_bits c.args.self.now.octets.now)))
    ∙ sym (drop-take c.args.count (c.args.self.now.len - c.args.count) (drop c.args.self.now.first (octet_bits c.args.self.now.octets.now)))
    ∙ ap (λ k. drop c.args.count (take k (drop c.args.self.now.first (octet_bits c.args.self.now.octets.now)))) n

pub returns-clause-rest_offset : goal.returns-clause-rest_offset
unfolding offset_of
returns-clause-rest_offset c = omega arith
