-- The first binary digits of a number of 128.
use Rattle.std.proofs.Common.{◌≡◌, ℕ, ◌+◌, ◌-◌, ◌*◌, ◌/◌, ◌%◌, ◌^◌, ◌<◌, ◌≤◌, Bool, false, List, length, replicate, take, drop, min, ap, sym, ◌∙◌, arith}
use Rattle.std.proofs.lemmas.Nat.{shr_below, shr-shr}
use Rattle.std.proofs.lemmas.List.{take_at, drop_at, drop-take, take-take, take-append-le, length-drop, length-take-le}
use Rattle.asn1_model.specs.Numbers.{binary}
use Rattle.asn1_values_bits.specs.declared.bit_window.BitWindow.{BitWindow}
use Rattle.asn1_values_bits.specs.BitWindow.{shown, IsWindowOf}
use Rattle.asn1_values_bits.proofs.Binary.{length-binary, binary_split, binary_low, binary_shifted}

-- a number at the high end of 128 digits
pub high_end : (count n : ℕ) → count ≤ 128 → take count (binary 128 (n * 2 ^ (128 - count) % 2 ^ 128)) ≡ binary count n
high_end count n h =
    let all : count + (128 - count) ≡ 128 = omega arith in
    ap (take count) (binary_low 128 (n * 2 ^ (128 - count)) ∙ ap (λ k. binary k (n * 2 ^ (128 - count))) (sym all) ∙ binary_shifted count (128 - count) n)
    ∙ take_at (binary count n) (replicate (128 - count) false) count (length-binary count n)

-- the digits after the first ones
shifted : (o w n : ℕ) → o + w ≤ 128 → take w (binary 128 (n * 2 ^ o % 2 ^ 128)) ≡ take w (drop o (binary 128 n))
shifted o w n h =
    let r : ℕ = 128 - o in
    let right : r + o ≡ 128 = omega arith in
    let left : o + r ≡ 128 = omega arith in
    let room : w ≤ length (binary r n) = omega (arith, length-binary r n) in
    ap (take w) (binary_low 128 (n * 2 ^ o) ∙ ap (λ k. binary k (n * 2 ^ o)) (sym right) ∙ binary_shifted r o n)
    ∙ take-append-le w (binary r n) (replicate o false) room
    ∙ ap (take w) (sym (ap (λ k. drop o (binary k n)) (sym left) ∙ ap (drop o) (binary_split o r n) ∙ drop_at (binary o (n / 2 ^ r)) (binary r n) o (length-binary o (n / 2 ^ r))))

-- .. where the first ones are those of a list
pub shown_on : (o w count n : ℕ) (bits : List Bool) → count ≤ 128 → o + w ≤ count → take count (binary 128 n) ≡ take count bits → take w (binary 128 (n * 2 ^ o % 2 ^ 128)) ≡ take w (drop o bits)
shown_on o w count n bits h l e =
    shifted o w n (omega arith) ∙ sym (drop-take o w (binary 128 n))
    ∙ ap (drop o) (sym (take-take (o + w) count (binary 128 n) l) ∙ ap (take (o + w)) e ∙ take-take (o + w) count bits l)
    ∙ drop-take o w bits

-- the first digits as a number
pub first_digits : (n w x : ℕ) → n ≤ w → w ≤ 128 → binary n (x / 2 ^ (128 - n)) ≡ take n (take w (binary 128 x))
first_digits n w x h l =
    let all : n + (128 - n) ≡ 128 = omega arith in
    sym (take-take n w (binary 128 x) h ∙ ap (λ k. take n (binary k x)) (sym all) ∙ ap (take n) (binary_split n (128 - n) x)
    ∙ take_at (binary n (x / 2 ^ (128 - n))) (binary (128 - n) x) n (length-binary n (x / 2 ^ (128 - n))))

pub first_small : (n x : ℕ) → n ≤ 128 → x < 2 ^ 128 → x / 2 ^ (128 - n) < 2 ^ n
first_small n x h l = let all : n + (128 - n) ≡ 128 = omega arith in shr_below x n (128 - n) (rw all l)

-- .. through the high half of the number
pub high_half : (n x : ℕ) → n ≤ 64 → x / 2 ^ 64 / 2 ^ (64 - n) ≡ x / 2 ^ (128 - n)
high_half n x h = shr-shr x 64 (64 - n) ∙ ap (λ k. x / 2 ^ k) (omega arith)

-- a window without its first bits
pub shown_behind : (c w n : ℕ) → c ≤ w → w ≤ 128 → take (w - c) (binary 128 (n * 2 ^ c % 2 ^ 128)) ≡ drop c (take w (binary 128 n))
shown_behind c w n h l =
    let all : c + (w - c) ≡ w = omega arith in
    shifted c (w - c) n (omega arith) ∙ sym (drop-take c (w - c) (binary 128 n)) ∙ ap (λ k. drop c (take k (binary 128 n))) all

pub window_behind : (bits rest : List Bool) (w v : BitWindow) (c : ℕ) → IsWindowOf bits w → rest ≡ drop c bits → c < w.width → shown v ≡ drop c (shown w) → v.width + c ≡ w.width → IsWindowOf rest v
window_behind bits rest w v c k e h s n =
    let all : w.width ≡ c + v.width = omega arith in
    record {
      narrow = v.narrow;
      within = omega (arith, k.within, ap length e, length-drop c bits);
      some = λ _. omega arith;
      front = s ∙ ap (drop c) (k.front ∙ ap (λ i. take i bits) all) ∙ drop-take c v.width bits ∙ ap (take v.width) (sym e);
    }

-- a window of the first bits alone
pub window_front : (bits front : List Bool) (w v : BitWindow) (c : ℕ) → IsWindowOf bits w → front ≡ take c bits → c ≤ length bits →
    v.width ≡ min c w.width → shown v ≡ take v.width (shown w) → IsWindowOf front v
window_front bits front w v c k e h n s =
    let long : length front ≡ c = ap length e ∙ length-take-le c bits h in
    record {
      narrow = v.narrow;
      within = omega (arith, long, n);
      some = λ some. omega (arith, long, n, k.some);
      front = s ∙ ap (take v.width) k.front ∙ take-take v.width w.width bits (omega arith)
          ∙ sym (ap (take v.width) e ∙ take-take v.width c bits (omega arith));
    }
