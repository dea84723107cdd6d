use Rattle.std.proofs.Common.{◌≡◌, ◌+◌, ◌-◌, ◌*◌, ◌/◌, ◌%◌, ◌^◌, ◌<◌, ◌++◌, ℕ, List, Bool, bit_or, bit_and, refl, take, set, get_or, arith, ap, sym, ◌∙◌, length, replicate, false, length-append}
use Rattle.std.specs.Int.{bytes_high_first}
use Rattle.std.proofs.lemmas.List.{append-nil, get_or_append_left, set-append_left}
use Rattle.asn1_model.specs.Numbers.{binary, octet_bits, missing}
use Rattle.asn1_values_bits.proofs.Binary.{length-binary}
use Rattle.asn1_values_bits.proofs.Kept.{keeps, kept_view, kept_bits, kept_length}
use Rattle.asn1_values_bits.proofs.Whole.{whole_written, across_written}
use Rattle.asn1_values_bits.proofs.bit_buffer.BitBuffer.push_across.Goals as goal
use Rattle.asn1_values_bits.proofs.bit_buffer.BitBuffer.push_across.Goals.{then-free-gt0, else-free-gt0}

before : (c : goal.After-self-2-1) → octet_bits c.self.inside.octets.items ≡ c.args.self.now ++ replicate c.free_bits-free.result false
before c = kept_bits c.self.inside.len c.self.inside.octets.items c.args.self.now c.self.invariant c.self.view_is ∙ ap (λ k. c.args.self.now ++ replicate k false) (sym c.free_bits-free.ensures)

now : (c : goal.After-self-2-1) → octet_bits c.if-free-gt0.self-inside.octets.items ≡ (c.args.self.now ++ binary c.args.width c.args.value) ++ replicate (missing c.in-Some.len) false
now c =
    let os : List ℕ = c.self.inside.octets.items in
    let v : List Bool = c.args.self.now in
    let free : ℕ = c.free_bits-free.result in
    let left : ℕ = c.args.width - free in
    let x : ℕ = c.args.value in
    let n : ℕ = (left + 7) / 8 in
    let bs : List ℕ = take n (bytes_high_first 8 (x * 2 ^ (64 - left) % 2 ^ 64)) in
    let small : free < 8 = omega (arith, c.free_bits-free.ensures) in
    let size = c.self.invariant.size in
    let k : ℕ = c.len-before.result - 1 in
    let added : c.extend_from_slice.new.self.items ≡ os ++ bs = c.in_ok-extend_from_slice.ensures.items ∙ ap (λ l. os ++ take n l) c.to_be_bytes-octets.ensures in
    let end : missing left ≡ missing c.in-Some.len = omega (arith, c.in-Some.ensures, c.free_bits-free.ensures) in
    elim c.if-free-gt0.branch [
      | then-free-gt0 w ↦
          let o : ℕ = w.index_mut.result.now in
          let last : length os ≡ k + 1 = omega (arith, c.free_bits-free.ensures) in
          let within : k < length os = omega (arith, last) in
          let read : o ≡ get_or os k o = w.index_mut.ensures.value ∙ ap (λ l. get_or l k o) added ∙ get_or_append_left os bs o k within in
          let y : ℕ = bit_or o (bit_and (x / 2 ^ left) (1 * 2 ^ free % 2 ^ 64 - 1)) in
          let done : c.if-free-gt0.self-inside.octets.items ≡ set os k y ++ bs = ap (λ i. i.octets.items) w.self-inside-is ∙ ap (λ l. set l k y) added ∙ set-append_left os bs k y within in
          let all : free + left ≡ c.args.width = omega (arith, small) in
          across_written os c.if-free-gt0.self-inside.octets.items v k free left n o x (before c) last read small (omega arith) (omega arith) done
          ∙ ap (λ m. (v ++ binary m x) ++ replicate (missing left) false) all
          ∙ ap (λ m. (v ++ binary c.args.width x) ++ replicate m false) end
      | else-free-gt0 w ↦
          let none : free ≡ 0 = omega arith in
          let all : left ≡ c.args.width = omega arith in
          let old : octet_bits os ≡ v = before c ∙ ap (λ m. v ++ replicate m false) none ∙ append-nil v in
          whole_written 8 os c.if-free-gt0.self-inside.octets.items v left n x (x * 2 ^ (64 - left) % 2 ^ 64) old (omega arith) (omega arith) refl (ap (λ i. i.octets.items) w.self-inside-is ∙ added)
          ∙ ap (λ m. (v ++ binary m x) ++ replicate (missing left) false) all
          ∙ ap (λ m. (v ++ binary c.args.width x) ++ replicate m false) end
    ]

longer : (c : goal.After-self-2-1) → length (c.args.self.now ++ binary c.args.width c.args.value) ≡ c.in-Some.len
longer c = length-append c.args.self.now (binary c.args.width c.args.value) ∙
    (omega (arith, c.in-Some.ensures, length-binary c.args.width c.args.value, kept_length c.self.inside.len c.self.inside.octets.items c.args.self.now c.self.invariant c.self.view_is))

pub invariant_of-self-2 : goal.invariant_of-self-2
invariant_of-self-2 c = keeps c.in-Some.len c.if-free-gt0.self-inside.octets.items (c.args.self.now ++ binary c.args.width c.args.value) (longer c) (now c)

pub returns-clause-ok : goal.returns-clause-ok
returns-clause-ok c = kept_view c.in-Some.len c.if-free-gt0.self-inside.octets.items (c.args.self.now ++ binary c.args.width c.args.value) (longer c) (now c)
