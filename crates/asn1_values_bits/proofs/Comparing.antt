-- Lists of bits compared, and the numbers that they encode.
use Rattle.std.proofs.Common.{◌≡◌, ℕ, zero, suc, ◌+◌, ◌*◌, ◌/◌, ◌%◌, ◌^◌, ◌<◌, ◌≤◌, ◌==◌, Bool, true, false, List, [], ◌∷◌, ◌++◌, length, take, drop, refl, ap, sym, ◌∙◌, arith, inl, inr}
use Rattle.std.specs.Ordering.{ordering_then, ordering_reverse, bool_cmp}
use Rattle.std.specs.declared.cmp.Ordering.{Ordering}
use Rattle.std.specs.declared.cmp.Ordering.TheVariants.{Less, Greater}
use Rattle.std.specs.Cmp.Lexicographic.{slice_cmp}
use Rattle.std.proofs.lemmas.Nat.{shr_split, pow_pos, mod_below, shr_below}
use Rattle.std.proofs.lemmas.List.{take-append-drop}
use Rattle.std.proofs.lemmas.Bool.{cases_lt}
use Rattle.std.proofs.Math.Nat.{mul-le-mul_left}
use Rattle.asn1_model.specs.Numbers.{binary}
use Rattle.asn1_values_bits.specs.BitOrder.{bits_total}
use Rattle.asn1_values_bits.proofs.Binary.{binary_low}

-- equal leading bits are irrelevant
pub same_front : (p s t : List Bool) → slice_cmp bool_cmp (p ++ s) (p ++ t) ≡ slice_cmp bool_cmp s t
same_front [] s t = refl
same_front (true ∷ p) s t = same_front p s t
same_front (false ∷ p) s t = same_front p s t

top_bit : (a b : ℕ) → a < b → b < 2 → (r : Ordering) → ordering_then (bool_cmp (a % 2 == 1) (b % 2 == 1)) r ≡ Less
top_bit a b h l r =
    let none : a ≡ 0 = omega arith in
    let one : b ≡ 1 = omega arith in
    ap (λ k. ordering_then (bool_cmp (k % 2 == 1) (b % 2 == 1)) r) none ∙ ap (λ k. ordering_then (bool_cmp (0 % 2 == 1) (k % 2 == 1)) r) one

equal_bit : (b : Bool) (r : Ordering) → ordering_then (bool_cmp b b) r ≡ r
equal_bit true r = refl
equal_bit false r = refl

-- the bits of a smaller number come first
pub smaller_first : (w x y : ℕ) (s t : List Bool) → x < y → y < 2 ^ w → slice_cmp bool_cmp (binary w x ++ s) (binary w y ++ t) ≡ Less
smaller_first zero x y s t h l = absurd (omega arith)
smaller_first (suc w) x y s t h l =
    let one : 1 + w ≡ suc w = omega arith in
    let top : y / 2 ^ w < 2 ^ 1 = shr_below y 1 w (rw one l) in
    elim (cases_lt (x / 2 ^ w) (y / 2 ^ w)) [
      | inl less ↦ top_bit (x / 2 ^ w) (y / 2 ^ w) less (omega arith) (slice_cmp bool_cmp (binary w x ++ s) (binary w y ++ t))
      | inr rest ↦
          let p : ℕ = 2 ^ w in
          let a : ℕ = x / p in
          let b : ℕ = y / p in
          let R : Ordering = slice_cmp bool_cmp (binary w x ++ s) (binary w y ++ t) in
          let same : a ≡ b = elim (cases_lt b a) [
            | inl more ↦ absurd (omega (arith, shr_split x w, shr_split y w, mod_below y p (pow_pos w), mul-le-mul_left p (let q : b + 1 ≤ a = omega arith in q)))
            | inr e ↦ omega arith
          ] in
          let less : x % p < y % p = omega (arith, shr_split x w, shr_split y w, ap (λ k. k * p) same) in
          ap (λ k. ordering_then (bool_cmp (k % 2 == 1) (b % 2 == 1)) R) same ∙ equal_bit (b % 2 == 1) R
          ∙ sym (ap (λ k. slice_cmp bool_cmp (k ++ s) (binary w y ++ t)) (binary_low w x))
          ∙ sym (ap (λ k. slice_cmp bool_cmp (binary w (x % p) ++ s) (k ++ t)) (binary_low w y))
          ∙ smaller_first w (x % p) (y % p) s t less (mod_below y p (pow_pos w))
    ]

pub larger_last : (w x y : ℕ) (s t : List Bool) → y < x → x < 2 ^ w → slice_cmp bool_cmp (binary w x ++ s) (binary w y ++ t) ≡ Greater
larger_last w x y s t h l = bits_total.antisymm (binary w x ++ s) (binary w y ++ t) ∙ ap ordering_reverse (smaller_first w y x t s h l)

in_front : (X : List Bool) (few x : ℕ) → binary few x ≡ take few X → X ≡ binary few x ++ drop few X
in_front X few x e = sym (take-append-drop few X) ∙ ap (λ l. l ++ drop few X) (sym e)

pub front_less : (X Y : List Bool) (few x y : ℕ) → binary few x ≡ take few X → binary few y ≡ take few Y → x < y → y < 2 ^ few → slice_cmp bool_cmp X Y ≡ Less
front_less X Y few x y d e h l = ap (λ k. slice_cmp bool_cmp k Y) (in_front X few x d) ∙
    ap (slice_cmp bool_cmp (binary few x ++ drop few X)) (in_front Y few y e) ∙ smaller_first few x y (drop few X) (drop few Y) h l

pub front_greater : (X Y : List Bool) (few x y : ℕ) → binary few x ≡ take few X → binary few y ≡ take few Y → y < x → x < 2 ^ few → slice_cmp bool_cmp X Y ≡ Greater
front_greater X Y few x y d e h l = ap (λ k. slice_cmp bool_cmp k Y) (in_front X few x d) ∙
    ap (slice_cmp bool_cmp (binary few x ++ drop few X)) (in_front Y few y e) ∙ larger_last few x y (drop few X) (drop few Y) h l

pub front_equal : (X Y : List Bool) (few x y : ℕ) → binary few x ≡ take few X → binary few y ≡ take few Y → x ≡ y → slice_cmp bool_cmp (drop few X) (drop few Y) ≡ slice_cmp bool_cmp X Y
front_equal X Y few x y d e h =
    sym (ap (λ k. slice_cmp bool_cmp k Y) (in_front X few x d) ∙ ap (slice_cmp bool_cmp (binary few x ++ drop few X)) (in_front Y few y e)
    ∙ ap (λ k. slice_cmp bool_cmp (binary few k ++ drop few X) (binary few y ++ drop few Y)) h ∙ same_front (binary few y) (drop few X) (drop few Y))

-- a list before one that has ended
pub longer : (X Y : List Bool) → 0 < length X → length Y ≤ 0 → slice_cmp bool_cmp X Y ≡ Greater
longer [] Y h l = absurd (omega arith)
longer (x ∷ X) [] h l = refl
longer (x ∷ X) (y ∷ Y) h l = absurd (omega arith)

pub shorter : (X Y : List Bool) → length X ≤ 0 → 0 < length Y → slice_cmp bool_cmp X Y ≡ Less
shorter X [] l h = absurd (omega arith)
shorter [] (y ∷ Y) l h = refl
shorter (x ∷ X) (y ∷ Y) l h = absurd (omega arith)
