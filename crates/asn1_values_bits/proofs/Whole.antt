-- Numbers in whole octets, the highest first.
use Rattle.std.proofs.Common.{◌≡◌, ℕ, zero, suc, ◌+◌, ◌-◌, ◌*◌, ◌/◌, ◌%◌, ◌^◌, ◌<◌, ◌≤◌, Bool, false, List, ◌++◌}
use Rattle.std.proofs.Common.{length, take, replicate, refl, ap, sym, ◌∙◌, append_assoc, length-append, arith, get_or}
use Rattle.std.proofs.Common.{set, bit_or, bit_and}
use Rattle.std.specs.Int.{bytes_high_first}
use Rattle.std.proofs.lemmas.List.{replicate-append-replicate, take_at, length-replicate}
use Rattle.asn1_model.specs.Numbers.{binary, octet_bits, missing}
use Rattle.asn1_values_bits.proofs.Binary.{length-binary, binary_low, binary_shifted, octet_bits-append, octet_bits-take}
use Rattle.asn1_values_bits.proofs.BitViewsWhole.{high_first}
use Rattle.asn1_values_bits.proofs.Kept.{or_last_set, next_digits, next_small}

length-bytes : (k n : ℕ) → length (bytes_high_first k n) ≡ k
length-bytes zero n = refl
length-bytes (suc k) n = ap suc (length-bytes k n)

-- a number of the low digits, shifted to the high end of some octets, and the octets that they need
pub whole_written : (all : ℕ) (os os' : List ℕ) (v : List Bool) (w n x y : ℕ) → octet_bits os ≡ v → w ≤ all * 8 → n * 8 ≡ w + missing w →
    y ≡ x * 2 ^ (all * 8 - w) % 2 ^ (all * 8) → os' ≡ os ++ take n (bytes_high_first all y) → octet_bits os' ≡ (v ++ binary w x) ++ replicate (missing w) false
whole_written all os os' v w n x y b h m e f =
    let bs : List ℕ = bytes_high_first all y in
    let free : ℕ = all * 8 - w in
    let whole : w + free ≡ all * 8 = omega arith in
    let more : ℕ = free - missing w in
    let rest : missing w + more ≡ free = omega arith in
    let long : length (binary w x ++ replicate (missing w) false) ≡ n * 8 = length-append (binary w x) (replicate (missing w) false) ∙
    (omega (arith, length-binary w x, length-replicate (missing w) false)) in
    let shown : octet_bits bs ≡ (binary w x ++ replicate (missing w) false) ++ replicate more false =
    high_first all y ∙ ap (binary (all * 8)) e ∙ binary_low (all * 8) (x * 2 ^ free) ∙ ap (λ k. binary k (x * 2 ^ free)) (sym whole) ∙ binary_shifted w free x
    ∙ ap (λ l. binary w x ++ l) (ap (λ k. replicate k false) (sym rest) ∙ sym (replicate-append-replicate (missing w) more false))
    ∙ sym (append_assoc (binary w x) (replicate (missing w) false) (replicate more false)) in
    let cut : octet_bits (take n bs) ≡ binary w x ++ replicate (missing w) false =
    octet_bits-take n bs (omega (arith, length-bytes all y)) ∙ ap (take (n * 8)) shown ∙ take_at (binary w x ++ replicate (missing w) false) (replicate more false) (n * 8) long in
    ap octet_bits f ∙ octet_bits-append os (take n bs) ∙ ap (λ l. l ++ octet_bits (take n bs)) b ∙ ap (λ l. v ++ l) cut
    ∙ sym (append_assoc v (binary w x) (replicate (missing w) false))

-- .. of a number whose higher digits fill the last octet
pub across_written : (os os' : List ℕ) (v : List Bool) (k free left n o x : ℕ) → octet_bits os ≡ v ++ replicate free false → length os ≡ k + 1 →
    o ≡ get_or os k o → free < 8 → left ≤ 64 → n * 8 ≡ left + missing left →
    os' ≡ set os k (bit_or o (bit_and (x / 2 ^ left) (1 * 2 ^ free % 2 ^ 64 - 1))) ++ take n (bytes_high_first 8 (x * 2 ^ (64 - left) % 2 ^ 64)) →
    octet_bits os' ≡ (v ++ binary (free + left) x) ++ replicate (missing left) false
across_written os os' v k free left n o x b l r f h m e =
    let high : ℕ = bit_and (x / 2 ^ left) (1 * 2 ^ free % 2 ^ 64 - 1) in
    whole_written 8 (set os k (bit_or o high)) os' (v ++ binary free high) left n x (x * 2 ^ (64 - left) % 2 ^ 64)
    (or_last_set os v k free o high l r (omega arith) (next_small 64 left free x (omega arith)) b) h m refl e
    ∙ ap (λ p. p ++ replicate (missing left) false) (next_digits 64 v left free x (omega arith))
