-- The fragments of units, the largest first (X.691 11.9.3.8), one fragment after another.
use Rattle.std.proofs.Common.{◌≡◌, ◌⊎◌, inl, inr, ℕ, zero, suc, ◌+◌, ◌-◌, ◌*◌, ◌/◌, ◌%◌, ◌<◌, ◌≤◌, ◌==◌, leb, min, Bool}
use Rattle.std.proofs.Common.{true, false, cond, not, ◌&&◌, List, [], ◌∷◌, ◌++◌, filter, replicate, refl, ap, sym, ◌∙◌}
use Rattle.std.proofs.Common.{arith}
use Rattle.std.proofs.lemmas.Bool.{cases_lt, leb-true, le-leb, eqb-true, eq-eqb, and_parts, and_from, false≢true}
use Rattle.asn1_model.specs.Per

-- a fragment of m times 16384, if m is not zero
abbrev unless_zero : ℕ → List ℕ
unless_zero r = filter (λ m. not (m == 0)) (r ∷ [])

abbrev fragments_by : ℕ → ℕ → List ℕ
fragments_by q r = replicate q 4 ++ unless_zero r

one_fragment : (m : ℕ) (b : Bool) → (suc m == 0) ≡ b → unless_zero (suc m) ≡ suc m ∷ []
one_fragment m true e = absurd (let z : suc m ≡ 0 = eqb-true (suc m) 0 e in omega arith)
one_fragment m false e = ap (λ b. cond (not b) (suc m ∷ []) []) e

pub none_of_them : (n : ℕ) → n < 16384 → Per.largest_first n ≡ []
none_of_them n h =
    let q : n / 65536 ≡ 0 = omega arith in
    let r : n / 16384 % 4 ≡ 0 = omega arith in
    ap (λ i. fragments_by i (n / 16384 % 4)) q ∙ ap (λ i. unless_zero i) r

-- the first of them is four times 16384, or the last one
pub first_of_them : (n m : ℕ) → 16384 ≤ n → m ≡ min (n / 16384) 4 → Per.largest_first n ≡ m ∷ Per.largest_first (n - m * 16384)
first_of_them n m h e = elim (cases_lt n 65536) [
  | inl b ↦
      let i : m ≡ suc (m - 1) = omega arith in
      let q : n / 65536 ≡ 0 = omega arith in
      let r : n / 16384 % 4 ≡ suc (m - 1) = omega arith in
      ap (λ k. fragments_by k (n / 16384 % 4)) q
      ∙ ap (λ k. unless_zero k) r
      ∙ one_fragment (m - 1) (suc (m - 1) == 0) refl
      ∙ ap (λ k. k ∷ []) (sym i)
      ∙ ap (λ l. m ∷ l) (sym (none_of_them (n - m * 16384) (omega arith)))
  | inr b ↦
      let four : m ≡ 4 = omega arith in
      let q : n / 65536 ≡ suc ((n - m * 16384) / 65536) = omega arith in
      let r : n / 16384 % 4 ≡ (n - m * 16384) / 16384 % 4 = omega arith in
      ap (λ k. fragments_by k (n / 16384 % 4)) q
      ∙ ap (λ k. 4 ∷ fragments_by ((n - m * 16384) / 65536) k) r
      ∙ ap (λ k. k ∷ Per.largest_first (n - m * 16384)) (sym four)
]

-- after a fragment of m times 16384 units, these are in order: no fragment follows one of fewer than four times 16384
abbrev pub largest_behind : ℕ → List ℕ → Bool
largest_behind m [] = true
largest_behind m (k ∷ ks) = (m == 4 && (leb 1 k && leb k 4)) && largest_behind k ks

-- the number of units in these fragments, and a number of units after them
abbrev pub in_all : List ℕ → ℕ → ℕ
in_all [] n = n
in_all (m ∷ ms) n = m * 16384 + in_all ms n

pub behind_four : (m k : ℕ) (ks : List ℕ) → m ≡ 4 → (leb 1 k && leb k 4) ≡ true → largest_behind k ks ≡ true → largest_behind m (k ∷ ks) ≡ true
behind_four m k ks e r h = and_from _ _ (and_from _ _ (eq-eqb m 4 e) r) h

pub four_before : (m k : ℕ) (ks : List ℕ) → largest_behind m (k ∷ ks) ≡ true → (m ≡ 4) × (largest_behind k ks ≡ true)
four_before m k ks h =
    let p = and_parts (m == 4 && (leb 1 k && leb k 4)) (largest_behind k ks) h in
    (eqb-true m 4 ((and_parts (m == 4) (leb 1 k && leb k 4) p.0).0), p.1)

-- the largest first are in order
one_behind : (r : ℕ) (b : Bool) → (r == 0) ≡ b → r ≤ 4 → largest_behind 4 (cond (not b) (r ∷ []) []) ≡ true
one_behind r true e u = refl
one_behind zero false e u = absurd (false≢true (sym e ∙ eq-eqb 0 0 refl))
one_behind (suc r) false e u = behind_four 4 (suc r) [] refl (and_from _ _ (le-leb 1 (suc r) (omega arith)) (le-leb (suc r) 4 u)) refl

fours_behind : (q r : ℕ) → r ≤ 4 → largest_behind 4 (fragments_by q r) ≡ true
fours_behind zero r u = one_behind r (r == 0) refl u
fours_behind (suc q) r u = behind_four 4 4 (fragments_by q r) refl (and_from _ _ (le-leb 1 4 (omega arith)) (le-leb 4 4 (omega arith))) (fours_behind q r u)

pub first_are_largest : (n : ℕ) → largest_behind 4 (Per.largest_first n) ≡ true
first_are_largest n = fours_behind (n / 65536) (n / 16384 % 4) (omega arith)

-- and those in order are the largest first
following : (m : ℕ) (ms : List ℕ) (n : ℕ) → n < 16384 → largest_behind m ms ≡ true → (ms ≡ Per.largest_first (in_all ms n)) × ((m ≡ 4) ⊎ (in_all ms n < 16384))
following m [] n h e = (sym (none_of_them n h), inr h)
following m (k ∷ ks) n h e =
    let p = and_parts (m == 4 && (leb 1 k && leb k 4)) (largest_behind k ks) e in
    let q = and_parts (m == 4) (leb 1 k && leb k 4) p.0 in
    let r = and_parts (leb 1 k) (leb k 4) q.1 in
    let i = following k ks n h p.1 in
    (with_first k ks (in_all ks n) (leb-true 1 k r.0) (leb-true k 4 r.1) i.1 i.0, inl (eqb-true m 4 q.0))
  where
    with_first : (k : ℕ) (ks : List ℕ) (n : ℕ) → 1 ≤ k → k ≤ 4 → (k ≡ 4) ⊎ (n < 16384) → ks ≡ Per.largest_first n → k ∷ ks ≡ Per.largest_first (k * 16384 + n)
    with_first k ks n l u x e =
        let f : k ≡ min ((k * 16384 + n) / 16384) 4 = elim x [ inl y ↦ omega arith | inr y ↦ omega arith ] in
        let r : k * 16384 + n - k * 16384 ≡ n = omega arith in
        ap (λ l. k ∷ l) e ∙ ap (λ i. k ∷ Per.largest_first i) (sym r) ∙ sym (first_of_them (k * 16384 + n) k (omega arith) f)

pub largest_are_first : (ms : List ℕ) (n : ℕ) → n < 16384 → largest_behind 4 ms ≡ true → ms ≡ Per.largest_first (in_all ms n)
largest_are_first ms n h e = (following 4 ms n h e).0
