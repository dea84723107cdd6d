-- Octets of bits are the octets again.
use Rattle.std.proofs.Common.{◌≡◌, ℕ, zero, suc, ◌+◌, ◌*◌, ◌/◌, ◌%◌, ◌^◌, ◌<◌, ◌==◌, cond, List, [], ◌∷◌, length, map, get_or, refl, ap, sym, ◌∙◌, arith}
use Rattle.std.proofs.lemmas.Nat.{mod-pow-add, pow-add}
use Rattle.asn1_model.specs.Numbers.{binary, octet_bits, packed}
use Rattle.std.specs.Int.Digits.{number_from_digits_after}

digit : (n : ℕ) → cond (n % 2 == 1) 1 0 ≡ n % 2
digit n = grind arith

pub number_binary : (w n m : ℕ) → number_from_digits_after 2 m (map (λ b. cond b 1 0) (binary w n)) ≡ m * 2 ^ w + n % 2 ^ w
number_binary zero n m = omega arith
number_binary (suc w) n m =
    let one : 1 + w ≡ suc w = omega arith in
    let low : n % 2 ^ suc w ≡ (n / 2 ^ w % 2) * 2 ^ w + n % 2 ^ w = ap (λ k. n % 2 ^ k) (sym one) ∙ mod-pow-add n 1 w in
    let two : 2 ^ suc w ≡ 2 ^ w + 2 ^ w = ap (λ k. 2 ^ k) (sym one) ∙ pow-add 2 1 w ∙ (omega arith) in
    number_binary w n (m * 2 + cond (n / 2 ^ w % 2 == 1) 1 0) ∙ ap (λ d. (m * 2 + d) * 2 ^ w + n % 2 ^ w) (digit (n / 2 ^ w)) ∙ (omega (arith, low, ap (λ k. m * k) two))

pub packed-octet_bits : (os : List ℕ) → ((k : ℕ) → k < length os → get_or os k 0 < 256) → packed (octet_bits os) ≡ os
packed-octet_bits [] h = refl
packed-octet_bits (o ∷ os) h =
    let small : o < 256 = h 0 (omega arith) in
    let value : number_from_digits_after 2 0 (map (λ b. cond b 1 0) (binary 8 o)) ≡ o = number_binary 8 o 0 ∙ (omega arith) in
    ap (λ x. x ∷ packed (octet_bits os)) value ∙ ap (λ l. o ∷ l) (packed-octet_bits os (λ k l. h (suc k) (omega arith)))
