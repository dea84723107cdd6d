use Rattle.std.proofs.Common.{◌≡◌, ℕ, List, ◌+◌, ◌-◌, ◌*◌, ◌/◌, ◌%◌, ◌≤◌, ap, ◌∙◌, arith, take, drop, length}
use Rattle.asn1_model.specs.Numbers.{octet_bits}
use Rattle.asn1_values_bits.specs.BitStr.{bits_of}
use Rattle.asn1_values_bits.proofs.Shifting.{whole_front, shifted_front}
use Rattle.asn1_values_bits.proofs.Views.{length-bits_of}
use Rattle.asn1_values_bits.proofs.bit_str.BitStr.copy_to.Goals as goal

pub slice_bounds-copy_from_slice-end : goal.slice_bounds-copy_from_slice-end
slice_bounds-copy_from_slice-end c = omega (arith, c.requires, length-bits_of c.args.self.now, c.args.self.now.within)

pub slice_bounds-shift_octets-end : goal.slice_bounds-shift_octets-end
slice_bounds-shift_octets-end c = omega (arith, c.requires, length-bits_of c.args.self.now, c.args.self.now.within, c.if-offset-eq0.false, c.if-count-gt0.true)

pub returns-then-offset-eq0 : goal.returns-then-offset-eq0
unfolding bits_of
returns-then-offset-eq0 c =
    let os : List ℕ = c.args.self.now.octets.now in
    let first : ℕ = c.args.self.now.first in
    let len : ℕ = c.args.self.now.len in
    let n : ℕ = length c.args.octets.now in
    let count : first / 8 + n - first / 8 ≡ n = omega arith in
    let room : n * 8 ≤ len = omega (arith, c.requires, length-bits_of c.args.self.now) in
    ap octet_bits (c.copy_from_slice.ensures.after ∙ ap (λ k. take k (drop (first / 8) os)) count)
    ∙ whole_front os first len (first / 8) n (omega (arith, c.if-offset-eq0.true)) room (omega (arith, room, c.args.self.now.within))

pub returns-then-count-gt0 : goal.returns-then-count-gt0
unfolding bits_of
returns-then-count-gt0 c =
    let os : List ℕ = c.args.self.now.octets.now in
    let first : ℕ = c.args.self.now.first in
    let len : ℕ = c.args.self.now.len in
    let n : ℕ = length c.args.octets.now in
    let count : first / 8 + n + 1 - first / 8 ≡ n + 1 = omega arith in
    let room : n * 8 ≤ len = omega (arith, c.requires, length-bits_of c.args.self.now) in
    c.shift_octets.ensures ∙ ap (λ k. take (n * 8) (drop (first % 8) (octet_bits (take k (drop (first / 8) os))))) count
    ∙ shifted_front os first len (first / 8) (first % 8) n (omega arith) (omega arith) room (omega (arith, room, c.args.self.now.within, c.if-offset-eq0.false, c.if-count-gt0.true))
