-- Numbers in whole octets, the highest first.
use Rattle.std.proofs.Common.{◌≡◌, ℕ, zero, suc, ◌+◌, ◌*◌, ◌/◌, ◌^◌, ◌++◌, refl, ap, sym, ◌∙◌, arith}
use Rattle.std.specs.Int.{byte_at, bytes_high_first}
use Rattle.std.proofs.lemmas.Nat.{pow-add}
use Rattle.std.proofs.Math.Nat.{pow-suc}
use Rattle.asn1_model.specs.Numbers.{binary, octet_bits}
use Rattle.asn1_values_bits.proofs.Binary.{binary_low, binary_split}

pow256 : (k : ℕ) → 256 ^ k ≡ 2 ^ (k * 8)
pow256 zero = refl
pow256 (suc k) =
    let n : k * 8 + 8 ≡ suc k * 8 = omega arith in
    pow-suc 256 k ∙ ap (λ p. p * 256) (pow256 k) ∙ sym (pow-add 2 (k * 8) 8) ∙ ap (λ e. 2 ^ e) n

byte_bits : (k n : ℕ) → binary 8 (byte_at k n) ≡ binary 8 (n / 2 ^ (k * 8))
byte_bits zero n =
    let whole : n ≡ n / 2 ^ (0 * 8) = omega arith in
    binary_low 8 n ∙ ap (binary 8) whole
byte_bits (suc k) n = binary_low 8 (n / 256 ^ suc k) ∙ ap (λ p. binary 8 (n / p)) (pow256 (suc k))

-- the octets of a number are its binary digits
pub high_first : (k n : ℕ) → octet_bits (bytes_high_first k n) ≡ binary (k * 8) n
high_first zero n = refl
high_first (suc k) n =
    let m : 8 + k * 8 ≡ suc k * 8 = omega arith in
    ap (λ l. l ++ octet_bits (bytes_high_first k n)) (byte_bits k n) ∙ ap (λ l. binary 8 (n / 2 ^ (k * 8)) ++ l) (high_first k n)
    ∙ sym (binary_split 8 (k * 8) n) ∙ ap (λ w. binary w n) m
