use Rattle.std.proofs.Common.{◌≡◌, ℕ, List, ◌+◌, ◌-◌, ◌*◌, ◌/◌, ◌%◌, ◌^◌, ◌<◌, ap, sym, ◌∙◌, arith, get_or, take, drop, length, bit_or}
use Rattle.std.proofs.lemmas.List.{get_or_default, take_all}
use Rattle.asn1_model.specs.Numbers.{octet_bits}
use Rattle.asn1_values_bits.proofs.Shifting.{octet_across, shifted_more}
use Rattle.asn1_values_bits.proofs.bits.shift_octets.Goals as goal

pub loop-i-preserved : goal.loop-i-preserved
loop-i-preserved c =
    let os : List ℕ = c.args.source.now in
    let i : ℕ = c.loop-i.i in
    let o : ℕ = c.args.offset in
    let a : ℕ = get_or os i 0 in
    let b : ℕ = get_or os (i + 1) 0 in
    let within : i + 1 < length os = omega (arith, c.requires.one_more, c.loop-i-test.true) in
    let here : i < length c.loop-i.target = omega (arith, c.loop-i.auto.target, c.loop-i-test.true) in
    let first : i < length os = omega (arith, within) in
    shifted_more os c.loop-i.target i o (bit_or (a * 2 ^ o % 2 ^ 8) (b / 2 ^ (8 - o))) here c.loop-i.invariant
    (octet_across os i o a b (omega (arith, c.requires.within)) within (get_or_default os i 0 a first) (get_or_default os (i + 1) 0 b within) (c.type_inv.source (i + 1)).fits)

pub returns : goal.returns
returns c =
    let os : List ℕ = c.args.source.now in
    let all : c.loop-i.i ≡ length c.args.target.now = omega (arith, c.loop-i.auto.i-end, c.loop-i-test.false) in
    let long : length c.loop-i.target ≡ c.loop-i.i = c.loop-i.auto.target ∙ sym all in
    ap octet_bits (sym (take_all c.loop-i.i c.loop-i.target (omega (arith, long)))) ∙ c.loop-i.invariant
    ∙ ap (λ k. take (k * 8) (drop c.args.offset (octet_bits os))) all
