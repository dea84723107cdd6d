-- Octets that begin within other octets.
use Rattle.std.proofs.Common.{◌≡◌, ℕ, ◌+◌, ◌-◌, ◌*◌, ◌/◌, ◌%◌, ◌^◌, ◌<◌, ◌≤◌, Bool, false, List, ◌++◌, length, replicate, take, drop, get_or, set, refl, ap, sym, ◌∙◌, arith, bit_or}
use Rattle.std.specs.Int.{bytes_high_first}
use Rattle.std.proofs.lemmas.Nat.{shr-shr}
use Rattle.std.proofs.lemmas.List.{length-replicate, drop_at, drop-drop, drop-take, take-take, take_more_set}
use Rattle.asn1_model.specs.Numbers.{binary, octet_bits}
use Rattle.asn1_values_bits.specs.Octets.{ored}
use Rattle.asn1_values_bits.proofs.Binary.{length-binary, binary_split, binary_low, binary_shifted, binary_zero, octet_bits_push, octet_bits-append}
use Rattle.asn1_values_bits.proofs.BitViewsWhole.{high_first}
use Rattle.asn1_values_bits.proofs.Oring.{binary_or, ored-append, ored_zeros, zeros_ored}
use Rattle.asn1_values_bits.proofs.Reading.{take_two, bits_within}
use Rattle.asn1_values_bits.proofs.Views.{octets_at}

-- the low end of some octets and the high end of the next octet
pub shifted_across : (w o a b : ℕ) → o ≤ w → o ≤ 8 → b < 2 ^ 8 → binary w (bit_or (a * 2 ^ o % 2 ^ w) (b / 2 ^ (8 - o))) ≡ binary (w - o) a ++ binary o (b / 2 ^ (8 - o))
shifted_across w o a b n h small =
    let past : ℕ = w - o in
    let y : ℕ = b / 2 ^ (8 - o) in
    let all : past + o ≡ w = omega arith in
    let eight : (8 - o) + o ≡ 8 = omega arith in
    let left : binary w (a * 2 ^ o % 2 ^ w) ≡ binary past a ++ replicate o false = binary_low w (a * 2 ^ o) ∙ ap (λ k. binary k (a * 2 ^ o)) (sym all) ∙ binary_shifted past o a in
    let nothing : b / 2 ^ 8 ≡ 0 = omega arith in
    let none : y / 2 ^ o ≡ 0 = shr-shr b (8 - o) o ∙ ap (λ k. b / 2 ^ k) eight ∙ nothing in
    let right : binary w y ≡ replicate past false ++ binary o y = ap (λ k. binary k y) (sym all) ∙ binary_split past o y ∙
    ap (λ k. binary past k ++ binary o y) none ∙ ap (λ l. l ++ binary o y) (binary_zero past) in
    binary_or w (a * 2 ^ o % 2 ^ w) y ∙ ap (λ l. ored l (binary w y)) left ∙ ap (ored (binary past a ++ replicate o false)) right
    ∙ ored-append (binary past a) (replicate past false) (replicate o false) (binary o y) (length-binary past a ∙ sym (length-replicate past false))
    ∙ ap (λ l. l ++ ored (replicate o false) (binary o y)) (ored_zeros (binary past a) past (length-binary past a))
    ∙ ap (λ l. binary past a ++ l) (zeros_ored (binary o y) o (length-binary o y))

-- the eight bits from a bit of an octet on
pub octet_across : (os : List ℕ) (i o a b : ℕ) → o ≤ 8 → i + 1 < length os → a ≡ get_or os i a → b ≡ get_or os (i + 1) b → b < 2 ^ 8 →
    binary 8 (bit_or (a * 2 ^ o % 2 ^ 8) (b / 2 ^ (8 - o))) ≡ take 8 (drop (i * 8 + o) (octet_bits os))
octet_across os i o a b h n p q small =
    let B : List Bool = octet_bits os in
    let past : ℕ = 8 - o in
    let all : past + o ≡ 8 = omega arith in
    let high : take past (drop (i * 8 + o) B) ≡ binary past (a / 2 ^ (8 - o - past)) = bits_within os (i * 8 + o) i o past a refl (omega arith) p (omega arith) in
    let whole : 8 - o - past ≡ 0 = omega arith in
    let one : a / 2 ^ 0 ≡ a = omega arith in
    let same : a / 2 ^ (8 - o - past) ≡ a = ap (λ k. a / 2 ^ k) whole ∙ one in
    let low : take o (drop ((i + 1) * 8) B) ≡ binary o (b / 2 ^ (8 - 0 - o)) = bits_within os ((i + 1) * 8) (i + 1) 0 o b (omega arith) n q (omega arith) in
    let further : drop past (drop (i * 8 + o) B) ≡ drop ((i + 1) * 8) B = drop-drop past (i * 8 + o) B ∙ ap (λ k. drop k B) (omega arith) in
    shifted_across 8 o a b h h small
    ∙ ap (λ l. l ++ binary o (b / 2 ^ past)) (sym (high ∙ ap (binary past) same))
    ∙ ap (λ l. take past (drop (i * 8 + o) B) ++ l) (sym (ap (take o) further ∙ low))
    ∙ sym (take_two past o (drop (i * 8 + o) B))
    ∙ ap (λ k. take k (drop (i * 8 + o) B)) all

-- .. and those of several octets
pub octets_across : (k : ℕ) (os : List ℕ) (i o e b : ℕ) → 0 < k → o ≤ 8 → i + k < length os →
    binary (k * 8) e ≡ take (k * 8) (drop (i * 8) (octet_bits os)) → b ≡ get_or os (i + k) b → b < 2 ^ 8 →
    binary (k * 8) (bit_or (e * 2 ^ o % 2 ^ (k * 8)) (b / 2 ^ (8 - o))) ≡ take (k * 8) (drop (i * 8 + o) (octet_bits os))
octets_across k os i o e b some h n p q small =
    let B : List Bool = octet_bits os in
    let past : ℕ = k * 8 - o in
    let left : o + past ≡ k * 8 = omega arith in
    let all : past + o ≡ k * 8 = omega arith in
    let high : binary past e ≡ take past (drop (i * 8 + o) B) =
    sym (drop_at (binary o (e / 2 ^ past)) (binary past e) o (length-binary o (e / 2 ^ past)))
    ∙ ap (drop o) (sym (binary_split o past e) ∙ ap (λ j. binary j e) left ∙ p ∙ ap (λ j. take j (drop (i * 8) B)) (sym left))
    ∙ drop-take o past (drop (i * 8) B) ∙ ap (take past) (drop-drop o (i * 8) B) in
    let low : take o (drop ((i + k) * 8) B) ≡ binary o (b / 2 ^ (8 - 0 - o)) = bits_within os ((i + k) * 8) (i + k) 0 o b (omega arith) n q (omega arith) in
    let further : drop past (drop (i * 8 + o) B) ≡ drop ((i + k) * 8) B = drop-drop past (i * 8 + o) B ∙ ap (λ j. drop j B) (omega arith) in
    shifted_across (k * 8) o e b (omega arith) h small
    ∙ ap (λ l. l ++ binary o (b / 2 ^ (8 - o))) high
    ∙ ap (λ l. take past (drop (i * 8 + o) B) ++ l) (sym (ap (take o) further ∙ low))
    ∙ sym (take_two past o (drop (i * 8 + o) B))
    ∙ ap (λ j. take j (drop (i * 8 + o) B)) all

-- several octets more are copied
pub octets_more : (k : ℕ) (os ts now : List ℕ) (i o y : ℕ) → octet_bits (take i ts) ≡ take (i * 8) (drop o (octet_bits os)) →
    binary (k * 8) y ≡ take (k * 8) (drop (i * 8 + o) (octet_bits os)) → take (i + k) now ≡ take i ts ++ bytes_high_first k y →
    octet_bits (take (i + k) now) ≡ take ((i + k) * 8) (drop o (octet_bits os))
octets_more k os ts now i o y e b t =
    let B : List Bool = octet_bits os in
    let next : drop (i * 8 + o) B ≡ drop (i * 8) (drop o B) = ap (λ j. drop j B) (omega arith) ∙ sym (drop-drop (i * 8) o B) in
    ap octet_bits t ∙ octet_bits-append (take i ts) (bytes_high_first k y) ∙ ap (λ l. l ++ octet_bits (bytes_high_first k y)) e
    ∙ ap (λ l. take (i * 8) (drop o B) ++ l) (high_first k y ∙ b ∙ ap (take (k * 8)) next)
    ∙ sym (take_two (i * 8) (k * 8) (drop o B)) ∙ ap (λ j. take j (drop o B)) (omega arith)

-- one octet more is copied
pub shifted_more : (os ts : List ℕ) (i o y : ℕ) → i < length ts → octet_bits (take i ts) ≡ take (i * 8) (drop o (octet_bits os)) →
    binary 8 y ≡ take 8 (drop (i * 8 + o) (octet_bits os)) → octet_bits (take (i + 1) (set ts i y)) ≡ take ((i + 1) * 8) (drop o (octet_bits os))
shifted_more os ts i o y h e b =
    let B : List Bool = octet_bits os in
    let next : drop (i * 8 + o) B ≡ drop (i * 8) (drop o B) = ap (λ k. drop k B) (omega arith) ∙ sym (drop-drop (i * 8) o B) in
    ap octet_bits (take_more_set ts i y h) ∙ octet_bits_push (take i ts) y ∙ ap (λ l. l ++ binary 8 y) e
    ∙ ap (λ l. take (i * 8) (drop o B) ++ l) (b ∙ ap (take 8) next)
    ∙ sym (take_two (i * 8) 8 (drop o B)) ∙ ap (λ k. take k (drop o B)) (omega arith)

-- the whole octets at the start of some bits
pub whole_front : (os : List ℕ) (first len s n : ℕ) → first ≡ s * 8 → n * 8 ≤ len → s + n ≤ length os → octet_bits (take n (drop s os)) ≡ take (n * 8) (take len (drop first (octet_bits os)))
whole_front os first len s n e h l =
    octets_at os s n l ∙ ap (λ k. take (n * 8) (drop k (octet_bits os))) (sym e) ∙ sym (take-take (n * 8) len (drop first (octet_bits os)) h)

-- .. and those that begin within an octet
pub shifted_front : (os : List ℕ) (first len s o n : ℕ) → first ≡ s * 8 + o → o < 8 → n * 8 ≤ len → s + (n + 1) ≤ length os →
    take (n * 8) (drop o (octet_bits (take (n + 1) (drop s os)))) ≡ take (n * 8) (take len (drop first (octet_bits os)))
shifted_front os first len s o n e b h l =
    let B : List Bool = octet_bits os in
    let left : ℕ = (n + 1) * 8 - o in
    let all : o + left ≡ (n + 1) * 8 = omega arith in
    ap (λ k. take (n * 8) (drop o k)) (octets_at os s (n + 1) l ∙ ap (λ k. take k (drop (s * 8) B)) (sym all))
    ∙ ap (take (n * 8)) (drop-take o left (drop (s * 8) B))
    ∙ take-take (n * 8) left (drop o (drop (s * 8) B)) (omega arith)
    ∙ ap (take (n * 8)) (drop-drop o (s * 8) B ∙ ap (λ k. drop k B) (sym e))
    ∙ sym (take-take (n * 8) len (drop first B) h)
