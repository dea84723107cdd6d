-- Bits in a fixed number of octets.
use Rattle.std.proofs.Common.{◌≡◌, ℕ, zero, suc, ◌+◌, ◌-◌, ◌*◌, ◌<◌, ◌≤◌, inl, inr, Bool, false, List, [], ◌++◌, length, take, replicate, get_or, set, refl, ap, sym, ◌∙◌, arith, subst}
use Rattle.std.proofs.lemmas.Bool.{cases_eq}
use Rattle.std.proofs.lemmas.List.{replicate-append-replicate, take_all, take_at, length-replicate, append-nil, nil_from_length, get_or-set_same, get_or-set_other, length-take-le}
use Rattle.asn1_model.specs.Numbers.{octet_bits, packed}
use Rattle.asn1_values_bits.proofs.Packed.{packed-octet_bits}
use Rattle.asn1_values_bits.proofs.Views.{to_come}
use Rattle.asn1_values_bit_strings.specs.Fixed.{fixed_octets}

-- octets stay below 256 where one is changed to such a one
pub small_set : (os : List ℕ) (i y : ℕ) → i < length os → y < 256 → ((k : ℕ) → k < i → get_or os k 0 < 256) → (k : ℕ) → k < i + 1 → get_or (set os i y) k 0 < 256
small_set os i y h l small k b =
    elim (cases_eq k i) [
      | inl e ↦
          let same : get_or (set os i y) k 0 ≡ y = ap (λ j. get_or (set os i y) j 0) e ∙ get_or-set_same os i y 0 h in
          subst (λ v. v < 256) (sym same) l
      | inr ne ↦
          let other : get_or (set os i y) k 0 ≡ get_or os k 0 = get_or-set_other os i k y 0 ne in
          subst (λ v. v < 256) (sym other) (small k (omega arith))
    ]

-- nothing is left to come once all octets are made
pub filled : (os : List ℕ) (rest all : List Bool) (i : ℕ) → length os ≤ i → length rest ≤ (length os - i) * 8 → octet_bits (take i os) ++ to_come (length os - i) rest ≡ all → octet_bits os ≡ all
filled os rest all i h r e =
    let none : rest ≡ [] = nil_from_length rest (omega arith) in
    let zero_more : (length os - i) * 8 - length rest ≡ 0 = omega arith in
    let whole : take i os ≡ os = take_all i os h in
    let end : to_come (length os - i) rest ≡ [] = ap (λ k. rest ++ replicate k false) zero_more ∙ append-nil rest ∙ none in
    sym (append-nil (octet_bits os)) ∙ ap (λ l. octet_bits os ++ l) (sym end) ∙ ap (λ l. octet_bits l ++ to_come (length os - i) rest) (sym whole) ∙ e

pub filled_octets : (os : List ℕ) (n : ℕ) (bits : List Bool) → ((k : ℕ) → k < length os → get_or os k 0 < 256) → octet_bits os ≡ to_come n bits → os ≡ fixed_octets n bits
filled_octets os n bits small e = sym (packed-octet_bits os small) ∙ ap packed e

-- the first bits of octets that hold exactly these bits, followed by zero bits
pub fixed_view : (os : List ℕ) (n : ℕ) (bits : List Bool) → octet_bits os ≡ to_come n bits → length bits ≡ n → take n (octet_bits os) ≡ bits
fixed_view os n bits e l = ap (take n) e ∙ take_at bits (replicate (n * 8 - length bits) false) n l

pub fixed_kept : (os : List ℕ) (n : ℕ) (bits : List Bool) → os ≡ fixed_octets n bits → octet_bits os ≡ to_come n bits → length bits ≡ n → os ≡ fixed_octets n (take n (octet_bits os))
fixed_kept os n bits f e l = f ∙ ap (fixed_octets n) (sym (fixed_view os n bits e l))

pub zero_bits : (n : ℕ) → octet_bits (replicate n 0) ≡ replicate (n * 8) false
zero_bits zero = refl
zero_bits (suc n) = ap (λ l. replicate 8 false ++ l) (zero_bits n) ∙ replicate-append-replicate 8 (n * 8) false ∙ ap (λ k. replicate k false) (omega arith)

pub zeros_first : (n : ℕ) → take n (octet_bits (replicate n 0)) ≡ replicate n false
zeros_first n =
    let parts : n * 8 ≡ n + n * 7 = omega arith in
    ap (take n) (zero_bits n ∙ ap (λ k. replicate k false) parts ∙ sym (replicate-append-replicate n (n * 7) false))
    ∙ take_at (replicate n false) (replicate (n * 7) false) n (length-replicate n false)

-- octets that were zero, once the bits of a view are written into them
pub fill_kept : (os : List ℕ) (n : ℕ) (bits all : List Bool) → os ≡ fixed_octets (length {A = ℕ} (replicate n 0)) bits →
    octet_bits os ≡ to_come (length {A = ℕ} (replicate n 0)) bits → bits ≡ take n all → n ≤ length all → os ≡ fixed_octets n (take n (octet_bits os))
fill_kept os n bits all f e b h =
    let m : length {A = ℕ} (replicate n 0) ≡ n = length-replicate n 0 in
    fixed_kept os n bits (f ∙ ap (λ k. fixed_octets k bits) m) (e ∙ ap (λ k. to_come k bits) m) (ap length b ∙ length-take-le n all h)

pub fill_view : (os : List ℕ) (n : ℕ) (bits all : List Bool) → octet_bits os ≡ to_come (length {A = ℕ} (replicate n 0)) bits → bits ≡ take n all → n ≤ length all → take n (octet_bits os) ≡ take n all
fill_view os n bits all e b h =
    let m : length {A = ℕ} (replicate n 0) ≡ n = length-replicate n 0 in
    fixed_view os n bits (e ∙ ap (λ k. to_come k bits) m) (ap length b ∙ length-take-le n all h) ∙ b
