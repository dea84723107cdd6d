use Rattle.std.proofs.Common.{◌≡◌, ℕ, ◌+◌, ◌-◌, ◌*◌, ◌/◌, ◌%◌, ◌^◌, ◌<◌, ◌≤◌, List, Bool, take, drop, ap, sym, ◌∙◌, arith, bit_or}
use Rattle.std.proofs.lemmas.Nat.{mod_below, or_lt, pow_pos, shr_below}
use Rattle.std.proofs.lemmas.List.{get_or_default, take_at, take-take}
use Rattle.asn1_model.specs.Numbers.{binary, octet_bits}
use Rattle.asn1_values_bits.proofs.Binary.{length-binary, binary_split}
use Rattle.asn1_values_bits.proofs.Shifting.{octets_across}
use Rattle.asn1_values_bits.proofs.Window.{at}
use Rattle.asn1_values_bits.proofs.bits.read_of_nine.Goals as goal

-- the first digits of a number of 64
first_digits : (n x : ℕ) → n ≤ 64 → binary n (x / 2 ^ (64 - n)) ≡ take n (binary 64 x)
first_digits n x h =
    let all : n + (64 - n) ≡ 64 = omega arith in
    sym (ap (λ k. take n (binary k x)) (sym all) ∙ ap (take n) (binary_split n (64 - n) x)
    ∙ take_at (binary n (x / 2 ^ (64 - n))) (binary (64 - n) x) n (length-binary n (x / 2 ^ (64 - n))))

first_small : (n x : ℕ) → n ≤ 64 → x < 2 ^ 64 → x / 2 ^ (64 - n) < 2 ^ n
first_small n x h l = let all : n + (64 - n) ≡ 64 = omega arith in shr_below x n (64 - n) (rw all l)

-- the end of an octet is less than the octet
end_small : (x k : ℕ) → x < 2 ^ 8 → x / 2 ^ k < 2 ^ 64
end_small x k h = omega arith

pub returns-clause-fits : goal.returns-clause-fits
returns-clause-fits c =
    let o : ℕ = c.args.position % 8 in
    let f : ℕ = c.eight_octets-eight.result in
    let x : ℕ = at c.args.octets.now (c.args.position / 8 + 8) in
    first_small c.args.count (bit_or (f * 2 ^ o % 2 ^ 64) (x / 2 ^ (8 - o))) c.requires.narrow
    (or_lt 64 (f * 2 ^ o % 2 ^ 64) (x / 2 ^ (8 - o)) (mod_below (f * 2 ^ o) (2 ^ 64) (pow_pos 64)) (end_small x (8 - o) (c.type_inv.octets (c.args.position / 8 + 8)).fits))

pub returns-clause-digits : goal.returns-clause-digits
returns-clause-digits c =
    let os : List ℕ = c.args.octets.now in
    let B : List Bool = octet_bits os in
    let s : ℕ = c.args.position / 8 in
    let o : ℕ = c.args.position % 8 in
    let n : ℕ = c.args.count in
    let f : ℕ = c.eight_octets-eight.result in
    let x : ℕ = at os (s + 8) in
    let w : ℕ = bit_or (f * 2 ^ o % 2 ^ 64) (x / 2 ^ (8 - o)) in
    let across : binary 64 w ≡ take 64 (drop (s * 8 + o) B) = octets_across 8 os s o f x (omega arith) (omega arith) (omega (arith, c.requires.nine))
    c.eight_octets-eight.ensures (get_or_default os (s + 8) 0 x (omega (arith, c.requires.nine))) (c.type_inv.octets (s + 8)).fits in
    first_digits n w c.requires.narrow ∙ ap (take n) across ∙ take-take n 64 (drop (s * 8 + o) B) c.requires.narrow ∙ ap (λ k. take n (drop k B)) (omega arith)
