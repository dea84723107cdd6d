-- Numbers in the bits of octets.
use Rattle.std.proofs.Common.{◌≡◌, ℕ, ◌+◌, ◌-◌, ◌*◌, ◌/◌, ◌%◌, ◌^◌, ◌<◌, ◌≤◌, Bool, List, [], ◌∷◌, ◌++◌, length, take, drop, get_or, ap, sym, ◌∙◌, append_assoc, arith, bit_or, bit_and, ◌==◌}
use Rattle.std.proofs.lemmas.Nat.{pow_pos, or_shifted, one_shl, and_mask, mod_below, shl_whole, mul-add-lt, pow-add}
use Rattle.std.proofs.lemmas.List.{take_at, drop_at, take-append-drop, drop-drop, drop_more, drop-take, length-take-le, take-take}
use Rattle.asn1_model.specs.Numbers.{binary, octet_bits}
use Rattle.asn1_values_bits.proofs.Binary.{length-binary, binary_split, binary_join, length-octet_bits, octet_bits-append}

pub octet_bits-drop : (k : ℕ) (os : List ℕ) → k ≤ length os → octet_bits (drop k os) ≡ drop (k * 8) (octet_bits os)
octet_bits-drop k os h =
    let n : length (octet_bits (take k os)) ≡ k * 8 = omega (arith, length-octet_bits (take k os), length-take-le k os h) in
    sym (ap (λ l. drop (k * 8) (octet_bits l)) (sym (take-append-drop k os)) ∙ ap (drop (k * 8)) (octet_bits-append (take k os) (drop k os)) ∙
    drop_at (octet_bits (take k os)) (octet_bits (drop k os)) (k * 8) n)

-- some bits within one octet
pub bits_within : (os : List ℕ) (place q offset few x : ℕ) → place ≡ q * 8 + offset → q < length os → x ≡ get_or os q x → offset + few ≤ 8 →
    take few (drop place (octet_bits os)) ≡ binary few (x / 2 ^ (8 - offset - few))
bits_within os place q offset few x p l r h =
    let past : ℕ = 8 - offset - few in
    let high : offset + (few + past) ≡ 8 = omega arith in
    let behind : List Bool = octet_bits (drop (q + 1) os) in
    let begin : drop (q * 8) (octet_bits os) ≡ binary 8 x ++ behind = sym (octet_bits-drop q os (omega arith)) ∙ ap octet_bits (drop_more os q x l) ∙ sym (ap (λ y. binary 8 y ++ behind) r) in
    let from : drop place (octet_bits os) ≡ drop offset (binary 8 x ++ behind) = ap (λ k. drop k (octet_bits os)) p ∙ sym (drop-drop offset (q * 8) (octet_bits os)) ∙ ap (drop offset) begin in
    let parts : binary 8 x ≡ binary offset (x / 2 ^ (few + past)) ++ binary (few + past) x = ap (λ k. binary k x) (sym high) ∙ binary_split offset (few + past) x in
    let low : drop offset (binary 8 x ++ behind) ≡ binary (few + past) x ++ behind =
    ap (λ k. drop offset (k ++ behind)) parts ∙ ap (drop offset) (append_assoc (binary offset (x / 2 ^ (few + past))) (binary (few + past) x) behind)
    ∙ drop_at (binary offset (x / 2 ^ (few + past))) (binary (few + past) x ++ behind) offset (length-binary offset (x / 2 ^ (few + past))) in
    let whole : binary (few + past) x ++ behind ≡ binary few (x / 2 ^ past) ++ (binary past x ++ behind) =
    ap (λ k. k ++ behind) (binary_split few past x) ∙ append_assoc (binary few (x / 2 ^ past)) (binary past x) behind in
    ap (take few) (from ∙ low ∙ whole) ∙ take_at (binary few (x / 2 ^ past)) (binary past x ++ behind) few (length-binary few (x / 2 ^ past))

-- bits in two parts
pub take_two : (a b : ℕ) (l : List Bool) → take (a + b) l ≡ take a l ++ take b (drop a l)
take_two a b l = sym (take-append-drop a (take (a + b) l)) ∙ ap (λ k. k ++ drop a (take (a + b) l)) (take-take a (a + b) l (omega arith)) ∙ ap (λ k. take a l ++ k) (drop-take a b l)

-- further digits after those that were read
pub joined_digits : (w few v p limit : ℕ) → v < 2 ^ w → w + few ≤ limit → few < limit → bit_or (v * 2 ^ few % 2 ^ limit) (bit_and p (1 * 2 ^ few % 2 ^ limit - 1)) ≡ v * 2 ^ few + p % 2 ^ few
joined_digits w few v p limit h n m =
    let low : bit_and p (1 * 2 ^ few % 2 ^ limit - 1) ≡ p % 2 ^ few = ap (λ x. bit_and p (x - 1)) (one_shl few limit m) ∙ and_mask p few in
    ap (λ x. bit_or x (bit_and p (1 * 2 ^ few % 2 ^ limit - 1))) (shl_whole v w few limit h n) ∙ ap (bit_or (v * 2 ^ few)) low ∙ or_shifted v few (p % 2 ^ few) (mod_below p (2 ^ few) (pow_pos few))

pub joined_small : (w few v p : ℕ) → v < 2 ^ w → v * 2 ^ few + p % 2 ^ few < 2 ^ (w + few)
joined_small w few v p h = let e : w + few ≡ few + w = omega arith in rw (e, pow-add 2 few w) (mul-add-lt v (2 ^ few) (p % 2 ^ few) (2 ^ w) h (mod_below p (2 ^ few) (pow_pos few)))

-- a number read in two parts
pub wide_is : (w h l : ℕ) → h < 2 ^ w → w ≤ 64 → l < 2 ^ 64 → bit_or (h * 2 ^ 64 % 2 ^ 128) l ≡ h * 2 ^ 64 + l
wide_is w h l p n q = ap (λ x. bit_or x l) (shl_whole h w 64 128 p (omega arith)) ∙ or_shifted h 64 l q

pub wide_small : (w h l : ℕ) → h < 2 ^ w → l < 2 ^ 64 → h * 2 ^ 64 + l < 2 ^ (w + 64)
wide_small w h l p q = let e : w + 64 ≡ 64 + w = omega arith in rw (e, pow-add 2 64 w) (mul-add-lt h (2 ^ 64) l (2 ^ w) p q)

pub wide_read : (B : List Bool) (position w h l : ℕ) → l < 2 ^ 64 → binary w h ≡ take w (drop position B) →
    binary 64 l ≡ take 64 (drop (position + w) B) → binary (w + 64) (h * 2 ^ 64 + l) ≡ take (w + 64) (drop position B)
wide_read B position w h l q a b =
    sym (binary_join w 64 h l q) ∙ ap (λ k. k ++ binary 64 l) a ∙ ap (λ k. take w (drop position B) ++ k) (b ∙ ap (take 64) (sym (drop-drop w position B))) ∙ sym (take_two w 64 (drop position B))

-- one bit
pub bit_within : (os : List ℕ) (place q offset x : ℕ) (d : Bool) → place ≡ q * 8 + offset → q < length os → x ≡ get_or os q x → offset < 8 →
    get_or (octet_bits os) place d ≡ (bit_and (x / 2 ^ (7 - offset)) 1 == 1)
bit_within os place q offset x d p l r h =
    let inside : place < length (octet_bits os) = omega (arith, length-octet_bits os) in
    let one : take 1 (drop place (octet_bits os)) ≡ get_or (octet_bits os) place d ∷ [] = ap (take 1) (drop_more (octet_bits os) place d inside) in
    let read : get_or (octet_bits os) place d ∷ [] ≡ binary 1 (x / 2 ^ (8 - offset - 1)) = sym one ∙ bits_within os place q offset 1 x p l r (omega arith) in
    let place_is : 8 - offset - 1 ≡ 7 - offset = omega arith in
    let head : get_or (octet_bits os) place d ≡ (x / 2 ^ (8 - offset - 1) / 2 ^ 0 % 2 == 1) = cc in
    head ∙ ap (λ k. (x / 2 ^ k / 2 ^ 0 % 2 == 1)) place_is ∙ ap (λ k. k == 1) (ap (λ k. k % 2) (omega arith) ∙ sym (and_mask (x / 2 ^ (7 - offset)) 1))
