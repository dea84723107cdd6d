-- Numbers read of a few octets at once.
use Rattle.std.proofs.Common.{◌≡◌, ℕ, suc, ◌+◌, ◌-◌, ◌*◌, ◌/◌, ◌%◌, ◌^◌, ◌<◌, ◌≤◌, Bool, List, [], ◌∷◌, ◌++◌, length}
use Rattle.std.proofs.Common.{take, drop, get_or, refl, ap, sym, ◌∙◌, arith, bit_or, bit_and, Fits, w8, zero, lit<}
use Rattle.std.specs.Int.{from_be_bytes, w64}
use Rattle.std.proofs.lemmas.Nat.{be_bytes_8, pow_pos, or_shifted, and_mask, mod_below, shl_whole}
use Rattle.std.proofs.lemmas.Nat.Bits.{ones_shr}
use Rattle.std.proofs.lemmas.List.{take_at, drop_at, drop-drop, drop_more, drop-take, take-take}
use Rattle.asn1_model.specs.Numbers.{binary, octet_bits}
use Rattle.asn1_values_bits.proofs.Binary.{length-binary, binary_split, binary_join, binary_low}
use Rattle.asn1_values_bits.proofs.Reading.{take_two, bits_within}
use Rattle.asn1_values_bits.proofs.Views.{octets_at}
use Rattle.asn1_values_bits.proofs.BitViewsWhole.{high_first}

-- the octet at an index
abbrev pub at : List ℕ → ℕ → ℕ
at os i = get_or os i 0

abbrev pub eight_from : List ℕ → ℕ → List ℕ
eight_from os s = at os s ∷ at os (s + 1) ∷ at os (s + 2) ∷ at os (s + 3) ∷ at os (s + 4) ∷ at os (s + 5) ∷ at os (s + 6) ∷ at os (s + 7) ∷ []

next_at : (os : List ℕ) (i k : ℕ) → i < length os → i + 1 ≡ k → drop i os ≡ at os i ∷ drop k os
next_at os i k h e = drop_more os i 0 h ∙ ap (λ j. at os i ∷ drop j os) e

eight_taken : (os : List ℕ) (s : ℕ) → s + 8 ≤ length os → take 8 (drop s os) ≡ eight_from os s
eight_taken os s h =
    ap (take 8) (next_at os s (s + 1) (omega arith) refl)
    ∙ ap (λ l. at os s ∷ take 7 l) (next_at os (s + 1) (s + 2) (omega arith) (omega arith))
    ∙ ap (λ l. at os s ∷ at os (s + 1) ∷ take 6 l) (next_at os (s + 2) (s + 3) (omega arith) (omega arith))
    ∙ ap (λ l. at os s ∷ at os (s + 1) ∷ at os (s + 2) ∷ take 5 l) (next_at os (s + 3) (s + 4) (omega arith) (omega arith))
    ∙ ap (λ l. at os s ∷ at os (s + 1) ∷ at os (s + 2) ∷ at os (s + 3) ∷ take 4 l) (next_at os (s + 4) (s + 5) (omega arith) (omega arith))
    ∙ ap (λ l. at os s ∷ at os (s + 1) ∷ at os (s + 2) ∷ at os (s + 3) ∷ at os (s + 4) ∷ take 3 l) (next_at os (s + 5) (s + 6) (omega arith) (omega arith))
    ∙ ap (λ l. at os s ∷ at os (s + 1) ∷ at os (s + 2) ∷ at os (s + 3) ∷ at os (s + 4) ∷ at os (s + 5) ∷ take 2 l) (next_at os (s + 6) (s + 7) (omega arith) (omega arith))
    ∙ ap (λ l. at os s ∷ at os (s + 1) ∷ at os (s + 2) ∷ at os (s + 3) ∷ at os (s + 4) ∷ at os (s + 5) ∷ at os (s + 6) ∷ take 1 l) (next_at os (s + 7) (s + 8) (omega arith) (omega arith))

pub eight_small : (os : List ℕ) (s : ℕ) → ((i : ℕ) → Fits w8 (get_or os i 0)) → (i : ℕ) → get_or (eight_from os s) i 0 < 256
eight_small os s h zero = (h s).fits
eight_small os s h (suc zero) = (h (s + 1)).fits
eight_small os s h (suc (suc zero)) = (h (s + 2)).fits
eight_small os s h (suc (suc (suc zero))) = (h (s + 3)).fits
eight_small os s h (suc (suc (suc (suc zero)))) = (h (s + 4)).fits
eight_small os s h (suc (suc (suc (suc (suc zero))))) = (h (s + 5)).fits
eight_small os s h (suc (suc (suc (suc (suc (suc zero)))))) = (h (s + 6)).fits
eight_small os s h (suc (suc (suc (suc (suc (suc (suc zero))))))) = (h (s + 7)).fits
eight_small os s h (suc (suc (suc (suc (suc (suc (suc (suc i)))))))) = lit< tt

-- the number of eight octets has their bits as its digits
pub eight_read : (os : List ℕ) (s n : ℕ) → s + 8 ≤ length os → ((i : ℕ) → get_or (eight_from os s) i 0 < 256) →
    n ≡ from_be_bytes w64 (eight_from os s) → binary 64 n ≡ take 64 (drop (s * 8) (octet_bits os))
eight_read os s n h small e =
    sym (high_first 8 n) ∙ ap octet_bits (be_bytes_8 (eight_from os s) n refl small e ∙ sym (eight_taken os s h)) ∙ octets_at os s 8 h

-- some digits in the middle
digits_inside : (a c b n : ℕ) → take c (drop a (binary (a + (c + b)) n)) ≡ binary c (n / 2 ^ b)
digits_inside a c b n =
    ap (λ l. take c (drop a l)) (binary_split a (c + b) n) ∙ ap (take c) (drop_at (binary a (n / 2 ^ (c + b))) (binary (c + b) n) a (length-binary a (n / 2 ^ (c + b))))
    ∙ ap (take c) (binary_split c b n) ∙ take_at (binary c (n / 2 ^ b)) (binary b n) c (length-binary c (n / 2 ^ b))

-- an octet after eight
pub nine_is : (f x : ℕ) → f < 2 ^ 64 → x < 2 ^ 8 → bit_or (f * 2 ^ 8 % 2 ^ 128) x ≡ f * 2 ^ 8 + x
nine_is f x h l = ap (λ n. bit_or n x) (shl_whole f 64 8 128 h (omega arith)) ∙ or_shifted f 8 x l

-- digits of a number whose digits are bits from the beginning of an octet on
pub inside_read : (B : List Bool) (p s o c past w n : ℕ) → p ≡ s * 8 + o → o + (c + past) ≡ w → binary w n ≡ take w (drop (s * 8) B) → binary c (n / 2 ^ past) ≡ take c (drop p B)
inside_read B p s o c past w n e all b =
    let left : o + (w - o) ≡ w = omega arith in
    sym (digits_inside o c past n)
    ∙ ap (λ k. take c (drop o (binary k n))) all ∙ ap (λ k. take c (drop o k)) b
    ∙ ap (λ k. take c (drop o (take k (drop (s * 8) B)))) (sym left) ∙ ap (take c) (drop-take o (w - o) (drop (s * 8) B))
    ∙ take-take c (w - o) (drop o (drop (s * 8) B)) (omega arith)
    ∙ ap (take c) (drop-drop o (s * 8) B ∙ ap (λ k. drop k B) (sym e))

pub nine_read : (os : List ℕ) (p s o c f x : ℕ) → p ≡ s * 8 + o → o < 8 → c ≤ 64 → s + 9 ≤ length os → x < 2 ^ 8 → x ≡ get_or os (s + 8) x →
    binary 64 f ≡ take 64 (drop (s * 8) (octet_bits os)) → binary c ((f * 2 ^ 8 + x) / 2 ^ (72 - o - c)) ≡ take c (drop p (octet_bits os))
nine_read os p s o c f x e h n l small r b =
    let B : List Bool = octet_bits os in
    let past : ℕ = 72 - o - c in
    let last : take 8 (drop (s * 8 + 64) B) ≡ binary 8 (x / 2 ^ (8 - 0 - 8)) = bits_within os (s * 8 + 64) (s + 8) 0 8 x (omega arith) (omega arith) r (omega arith) in
    let same : x / 2 ^ (8 - 0 - 8) ≡ x = omega arith in
    let nine : binary 72 (f * 2 ^ 8 + x) ≡ take 72 (drop (s * 8) B) =
    sym (binary_join 64 8 f x small) ∙ ap (λ k. k ++ binary 8 x) b ∙ ap (λ k. take 64 (drop (s * 8) B) ++ binary 8 k) (sym same)
    ∙ ap (λ k. take 64 (drop (s * 8) B) ++ k) (sym last ∙ ap (take 8) (ap (λ k. drop k B) (omega arith) ∙ sym (drop-drop 64 (s * 8) B))) ∙ sym (take_two 64 8 (drop (s * 8) B)) in
    inside_read B p s o c past 72 (f * 2 ^ 8 + x) e (omega arith) nine

-- .. of the octets that hold the bits
pub few_read : (os : List ℕ) (p s o c u past f : ℕ) → p ≡ s * 8 + o → o + (c + past) ≡ u * 8 → s + u ≤ length os →
    binary (u * 8) f ≡ octet_bits (take u (drop s os)) → binary c (f / 2 ^ past) ≡ take c (drop p (octet_bits os))
few_read os p s o c u past f e all h b = inside_read (octet_bits os) p s o c past (u * 8) f e all (b ∙ octets_at os s u h)

-- the low digits of a number, masked off
pub masked : (c n : ℕ) → c ≤ 64 → bit_and n ((2 ^ 64 - 1) / 2 ^ (64 - c)) ≡ n % 2 ^ c
masked c n h =
    let all : 64 - (64 - c) ≡ c = omega arith in
    ap (bit_and n) (ones_shr 64 (64 - c) (omega arith) ∙ ap (λ k. 2 ^ k - 1) all) ∙ and_mask n c

pub masked_small : (c n : ℕ) → c ≤ 64 → bit_and n ((2 ^ 64 - 1) / 2 ^ (64 - c)) < 2 ^ c
masked_small c n h = rw (masked c n h) (mod_below n (2 ^ c) (pow_pos c))

pub masked_digits : (c n : ℕ) → c ≤ 64 → binary c (bit_and n ((2 ^ 64 - 1) / 2 ^ (64 - c))) ≡ binary c n
masked_digits c n h = ap (binary c) (masked c n h) ∙ binary_low c n
