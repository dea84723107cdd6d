-- One bit changed.
use Rattle.std.proofs.Common.{◌≡◌, ℕ, zero, suc, ◌+◌, ◌-◌, ◌*◌, ◌/◌, ◌%◌, ◌^◌, ◌<◌, ◌==◌, ◌≢◌, inl, inr, Bool, true}
use Rattle.std.proofs.Common.{false, List, [], ◌∷◌, ◌++◌, length, set, get_or, replicate, ap, sym, ◌∙◌, length-append}
use Rattle.std.proofs.Common.{length-set, arith, bit_or, bit_and}
use Rattle.std.specs.Int.{bit_at, bit_not, w8}
use Rattle.std.proofs.lemmas.Nat.Bits.{bit_at_set_same, bit_at_set_other, bit_at_clear_same, bit_at_clear_other}
use Rattle.std.proofs.lemmas.List.{same_lists, get_or-set_same, get_or-set_other, set-append_left, set-append_right}
use Rattle.std.proofs.lemmas.Bool.{cases_eq}
use Rattle.asn1_model.specs.Numbers.{binary, octet_bits, missing}
use Rattle.asn1_values_bits.proofs.Binary.{length-binary, length-octet_bits}

get_or-binary : (w n i : ℕ) (d : Bool) → i < w → get_or (binary w n) i d ≡ (bit_at n (w - 1 - i) == 1)
get_or-binary zero n i d h = absurd (omega arith)
get_or-binary (suc w) n zero d h = ap (λ k. n / 2 ^ k % 2 == 1) (omega arith)
get_or-binary (suc w) n (suc i) d h = get_or-binary w n i d (omega arith) ∙ ap (λ k. n / 2 ^ k % 2 == 1) (omega arith)

-- a number with a given bit at one position and the bits of n elsewhere
changed_at : (w n m p : ℕ) (b : Bool) → p < w → (bit_at m p == 1) ≡ b → ((i : ℕ) → i < w → i ≢ p → bit_at m i ≡ bit_at n i) → (k : ℕ) (d : Bool) →
    k < w → get_or (binary w m) k d ≡ get_or (set (binary w n) (w - 1 - p) b) k d
changed_at w n m p b h same other k d hk =
    get_or-binary w m k d hk ∙ (elim (cases_eq k (w - 1 - p)) [
      | inl e ↦
          let q : w - 1 - k ≡ p = omega arith in
          ap (λ x. bit_at m x == 1) q ∙ same
          ∙ sym (ap (λ x. get_or (set (binary w n) (w - 1 - p) b) x d) e ∙ get_or-set_same (binary w n) (w - 1 - p) b d (omega (arith, length-binary w n)))
      | inr ne ↦
          ap (λ x. x == 1) (other (w - 1 - k) (omega arith) (λ q. ne (omega arith)))
          ∙ sym (get_or-set_other (binary w n) (w - 1 - p) k b d ne ∙ get_or-binary w n k d hk)
    ])

changed : (w n m p : ℕ) (b : Bool) → p < w → (bit_at m p == 1) ≡ b → ((i : ℕ) → i < w → i ≢ p → bit_at m i ≡ bit_at n i) → binary w m ≡ set (binary w n) (w - 1 - p) b
changed w n m p b h same other =
    same_lists (binary w m) (set (binary w n) (w - 1 - p) b) (length-binary w m ∙ sym (length-set (binary w n) (w - 1 - p) b ∙ length-binary w n))
    (λ k d hk. changed_at w n m p b h same other k d (omega (arith, length-binary w m)))

pub raised : (n p : ℕ) → p < 8 → binary 8 (bit_or n (1 * 2 ^ p % 2 ^ 8)) ≡ set (binary 8 n) (8 - 1 - p) true
raised n p h = changed 8 n (bit_or n (1 * 2 ^ p % 2 ^ 8)) p true h (ap (λ x. x == 1) (bit_at_set_same w8 n p h)) (λ i hi ne. bit_at_set_other w8 n p h i ne)

pub lowered : (n p : ℕ) → p < 8 → binary 8 (bit_and n (bit_not w8 (1 * 2 ^ p % 2 ^ 8))) ≡ set (binary 8 n) (8 - 1 - p) false
lowered n p h = changed 8 n (bit_and n (bit_not w8 (1 * 2 ^ p % 2 ^ 8))) p false h (ap (λ x. x == 1) (bit_at_clear_same w8 n p h)) (λ i hi ne. bit_at_clear_other w8 n p h i hi ne)

-- an octet y changed to o among the others
pub octet_changed : (os : List ℕ) (q r y o : ℕ) (b : Bool) → r < 8 → q < length os → y ≡ get_or os q y → binary 8 o ≡ set (binary 8 y) r b → octet_bits (set os q o) ≡ set (octet_bits os) (q * 8 + r) b
octet_changed [] q r y o b hr hq hy e = absurd (omega arith)
octet_changed (x ∷ os) zero r y o b hr hq hy e =
    let n : 0 * 8 + r ≡ r = omega arith in
    ap (λ l. l ++ octet_bits os) (e ∙ ap (λ z. set (binary 8 z) r b) hy) ∙
    sym (ap (λ i. set (binary 8 x ++ octet_bits os) i b) n ∙ set-append_left (binary 8 x) (octet_bits os) r b (omega (arith, length-binary 8 x)))
octet_changed (x ∷ os) (suc q) r y o b hr hq hy e =
    let n : suc q * 8 + r - 8 ≡ q * 8 + r = omega arith in
    ap (λ l. binary 8 x ++ l) (octet_changed os q r y o b hr (omega arith) hy e)
    ∙ sym (set-append_right (binary 8 x) (octet_bits os) 8 (suc q * 8 + r) b (length-binary 8 x) (omega arith) ∙ ap (λ i. binary 8 x ++ set (octet_bits os) i b) n)

-- a bit of a kept list changed
pub kept_changed : (os : List ℕ) (v : List Bool) (len i y o : ℕ) (b : Bool) → octet_bits os ≡ v ++ replicate (missing len) false → length v ≡ len →
    i < len → y ≡ get_or os (i / 8) y → binary 8 o ≡ set (binary 8 y) (i % 8) b → octet_bits (set os (i / 8) o) ≡ set v i b ++ replicate (missing len) false
kept_changed os v len i y o b e n l r c =
    let within : i / 8 < length os = omega (arith, ap length e, length-octet_bits os, length-append v (replicate (missing len) false)) in
    let at : i / 8 * 8 + i % 8 ≡ i = omega arith in
    octet_changed os (i / 8) (i % 8) y o b (omega arith) within r c ∙ ap (λ k. set (octet_bits os) k b) at ∙ ap (λ k. set k i b) e
    ∙ set-append_left v (replicate (missing len) false) i b (omega arith)
