-- Groups of seven bits, from the last one back.
use Rattle.std.proofs.Common.{◌≡◌, ℕ, zero, suc, ◌+◌, ◌*◌, ◌/◌, ◌%◌, ◌^◌, ◌<◌, ◌≤◌, ◌==◌, max, Bool, true, false, List, [], ◌∷◌, ◌++◌, map, refl, ap, sym, ◌∙◌, arith, append_assoc}
use Rattle.std.proofs.lemmas.Bool.{eqb-true}
use Rattle.std.proofs.lemmas.List.{map-append}
use Rattle.std.proofs.Math.Nat.{div-one, pow-suc, div-div-eq-div-mul, mul_comm}
use Rattle.asn1_model.specs.Numbers.{digits, places, places_up_to}
use Rattle.asn1_model.specs.Strings.{with_top_bits, groups_of_seven}
use Rattle.asn1_values_identifiers.specs.Groups.{leading}

abbrev step : ℕ → Bool → ℕ → ℕ
step most t n = elim t [ true ↦ 0 | false ↦ suc (places_up_to most 128 (n / 128)) ]

not_zero : (n : ℕ) → (n == 0) ≡ false → 0 < n
not_zero zero e = cc
not_zero (suc n) e = omega arith

-- counting up to more makes no difference
places_enough : (most more n : ℕ) → n ≤ most → n ≤ more → places_up_to most 128 n ≡ places_up_to more 128 n
unfolding places_up_to
places_enough zero zero n h k = refl
places_enough zero (suc more) zero h k = refl
places_enough zero (suc more) (suc n) h k = absurd (omega arith)
places_enough (suc most) zero zero h k = refl
places_enough (suc most) zero (suc n) h k = absurd (omega arith)
places_enough (suc most) (suc more) n h k = go (n == 0) refl (places_enough most more (n / 128))
  where
    go : (t : Bool) → (n == 0) ≡ t → (n / 128 ≤ most → n / 128 ≤ more → places_up_to most 128 (n / 128) ≡ places_up_to more 128 (n / 128)) → step most t n ≡ step more t n
    go true e r = refl
    go false e r = let pos : 0 < n = not_zero n e in ap suc (r (omega arith) (omega arith))

-- a number above 0 has one digit more than its quotient
pub places_more : (n : ℕ) → 0 < n → places 128 n ≡ suc (places 128 (n / 128))
unfolding places_up_to
places_more zero h = absurd (omega arith)
places_more (suc n) h = go (suc n == 0) refl
  where
    go : (t : Bool) → (suc n == 0) ≡ t → step n t (suc n) ≡ suc (places 128 (suc n / 128))
    go true e = let z = eqb-true (suc n) 0 e in absurd (omega arith)
    go false e = ap suc (places_enough n (suc n / 128) (suc n / 128) (omega arith) (omega arith))

pub digits_last : (w n : ℕ) → digits 128 (suc w) n ≡ digits 128 w (n / 128) ++ n % 128 ∷ []
digits_last zero n = let e : n / 1 ≡ n = div-one n in ap (λ m. m % 128 ∷ []) e
digits_last (suc w) n =
    let e : n / 128 / 128 ^ w ≡ n / (128 * 128 ^ w) = div-div-eq-div-mul n 128 (128 ^ w) in
    let f : 128 ^ suc w ≡ 128 * 128 ^ w = pow-suc 128 w ∙ mul_comm (128 ^ w) 128 in
    let g : n / 128 ^ suc w ≡ n / 128 / 128 ^ w = ap (λ m. n / m) f ∙ sym e in
    ap (λ m. m % 128 ∷ digits 128 (suc w) n) g ∙ ap (λ ds. (n / 128 / 128 ^ w % 128) ∷ ds) (digits_last w n)

pub leading_more : (n : ℕ) → 0 < n → leading n ≡ leading (n / 128) ++ (n % 128 + 128) ∷ []
unfolding leading
leading_more n h =
    ap (λ w. map (λ d. d + 128) (digits 128 w n)) (places_more n h)
    ∙ ap (map (λ d. d + 128)) (digits_last (places 128 (n / 128)) n)
    ∙ map-append (λ d. d + 128) (digits 128 (places 128 (n / 128)) (n / 128)) (n % 128 ∷ [])

pub leading_one : (n : ℕ) → 0 < n → n < 128 → leading n ≡ (128 + n) ∷ []
unfolding leading places_up_to
leading_one n h k =
    let q : n / 128 ≡ 0 = omega arith in
    let r : n % 128 + 128 ≡ 128 + n = omega arith in
    leading_more n h ∙ ap (λ m. leading m ++ (n % 128 + 128) ∷ []) q ∙ ap (λ m. m ∷ []) r

with_top_bits_last : (ds : List ℕ) (d : ℕ) → with_top_bits (ds ++ d ∷ []) ≡ map (λ d. d + 128) ds ++ d ∷ []
with_top_bits_last [] d = refl
with_top_bits_last (e ∷ []) d = refl
with_top_bits_last (e ∷ f ∷ ds) d = ap (λ os. (e + 128) ∷ os) (with_top_bits_last (f ∷ ds) d)

max_more : (n : ℕ) → max 1 (suc n) ≡ suc n
max_more n = omega arith

-- a number below 128 is one octet
pub groups_one : (n : ℕ) → n < 128 → groups_of_seven n ≡ n ∷ []
unfolding places_up_to
groups_one zero h = refl
groups_one (suc n) h =
    let q : suc n / 128 ≡ 0 = omega arith in
    let r : suc n % 128 ≡ suc n = omega arith in
    let w : max 1 (places 128 (suc n)) ≡ 1 = ap (max 1) (places_more (suc n) (omega arith) ∙ ap (λ m. suc (places 128 m)) q) in
    ap (λ k. with_top_bits (digits 128 k (suc n))) w ∙ ap with_top_bits (digits_last 0 (suc n)) ∙ ap (λ m. m ∷ []) r

-- a larger one is the groups of its quotient, and its last seven bits
pub groups_more : (n : ℕ) → 128 ≤ n → groups_of_seven n ≡ leading (n / 128) ++ n % 128 ∷ []
unfolding leading
groups_more n h =
    let p : max 1 (places 128 n) ≡ suc (places 128 (n / 128)) = ap (max 1) (places_more n (omega arith)) ∙ max_more _ in
    ap (λ k. with_top_bits (digits 128 k n)) p
    ∙ ap with_top_bits (digits_last (places 128 (n / 128)) n)
    ∙ with_top_bits_last (digits 128 (places 128 (n / 128)) (n / 128)) (n % 128)

-- a larger number as it is pushed
pub leading_many : (n : ℕ) → 128 ≤ n → leading n ≡ leading (n / 128) ++ (128 + n % 128) ∷ []
leading_many n h = let e : n % 128 + 128 ≡ 128 + n % 128 = omega arith in leading_more n (omega arith) ∙ ap (λ m. leading (n / 128) ++ m ∷ []) e

-- old octets, then the leading ones, then the last
pub leading_pushed : (old front new : List ℕ) (n : ℕ) → 128 ≤ n → front ≡ old ++ leading (n / 128) → new ≡ front ++ (128 + n % 128) ∷ [] → new ≡ old ++ leading n
leading_pushed old front new n h e f =
    f ∙ ap (λ (l : List ℕ). l ++ (128 + n % 128) ∷ []) e ∙ append_assoc old (leading (n / 128)) ((128 + n % 128) ∷ []) ∙ ap (λ (l : List ℕ). old ++ l) (sym (leading_many n h))

pub leading_begun : (old new : List ℕ) (n : ℕ) → 0 < n → n < 128 → new ≡ old ++ (128 + n) ∷ [] → new ≡ old ++ leading n
leading_begun old new n p h f = f ∙ ap (λ (l : List ℕ). old ++ l) (sym (leading_one n p h))

pub group_pushed : (old front new : List ℕ) (n : ℕ) → 128 ≤ n → front ≡ old ++ leading (n / 128) → new ≡ front ++ (n % 128) ∷ [] → new ≡ old ++ groups_of_seven n
group_pushed old front new n h e f =
    f ∙ ap (λ (l : List ℕ). l ++ (n % 128) ∷ []) e ∙ append_assoc old (leading (n / 128)) ((n % 128) ∷ []) ∙ ap (λ (l : List ℕ). old ++ l) (sym (groups_more n h))

pub group_alone : (old new : List ℕ) (n : ℕ) → n < 128 → new ≡ old ++ n ∷ [] → new ≡ old ++ groups_of_seven n
group_alone old new n h f = f ∙ ap (λ (l : List ℕ). old ++ l) (sym (groups_one n h))
