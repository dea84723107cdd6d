-- The fragments of units, the largest first (X.691 11.9.3.8), one fragment after another.
use Rattle.std.proofs.Common.{◌≡◌, ◌⊎◌, inl, inr, ℕ, ◌+◌, ◌-◌, ◌*◌, ◌/◌, ◌<◌, ◌≤◌, ◌==◌, ltb, min, Bool, true, false, ◌||◌, IsTrue, List, [], ◌∷◌, refl, ap, sym, ◌∙◌, arith}
use Rattle.std.proofs.lemmas.Bool.{cases_lt, lt-ltb, ltb-true, eqb-true, eq-eqb, or_cases, false≢true}
use Rattle.asn1_model.specs.Per
use Rattle.per_codec_laws.proofs.Largest.{none_of_them, first_of_them}
use Rattle.per_codec_reading.specs.declared.length.Length.TheVariants.{Fragment}
use Rattle.per_codec_reading.specs.Units.{may_follow, length_may_follow}

-- ---- what may follow a fragment
pub follows_any : (t : Bool) (m n : ℕ) → t ≡ true → may_follow t m n ≡ true
follows_any true m n e = refl
follows_any false m n e = absurd (false≢true e)

pub follows_four : (t : Bool) (m n : ℕ) → m ≡ 4 → may_follow t m n ≡ true
follows_four true m n e = refl
follows_four false m n e = ap (λ b. b || ltb n 16384) (eq-eqb m 4 e)

pub follows_last : (t : Bool) (m n : ℕ) → n < 16384 → may_follow t m n ≡ true
follows_last t m n h = go t (m == 4)
  where
    go : (t b : Bool) → (t || (b || ltb n 16384)) ≡ true
    go true b = refl
    go false true = refl
    go false false = lt-ltb n 16384 h

pub follow_cases : (t : Bool) (m n : ℕ) → may_follow t m n ≡ true → (t ≡ true) ⊎ ((m ≡ 4) ⊎ (n < 16384))
follow_cases t m n h = elim (or_cases t _ h) [
  | inl e ↦ inl e
  | inr e ↦ elim (or_cases (m == 4) _ e) [ inl f ↦ inr (inl (eqb-true m 4 f)) | inr f ↦ inr (inr (ltb-true n 16384 f)) ]
]

-- another fragment is allowed, and so are all units that begin with it
pub fragment_follows : (t : Bool) (m k n : ℕ) → length_may_follow t m (Fragment k) ≡ true → may_follow t m n ≡ true
fragment_follows t m k n h = elim (or_cases t _ h) [ inl e ↦ follows_any t m n e | inr e ↦ follows_four t m n (eqb-true m 4 e) ]

-- if it is not allowed, no units that begin with a fragment are
pub fragment_refused : (t : Bool) (m k n : ℕ) → length_may_follow t m (Fragment k) ≡ false → 16384 ≤ n → may_follow t m n ≡ true → ⊥
fragment_refused t m k n h l e = elim (follow_cases t m n e) [
  | inl x ↦ false≢true (sym h ∙ any t x)
  | inr x ↦ elim x [ inl y ↦ false≢true (sym h ∙ four t (eq-eqb m 4 y)) | inr y ↦ absurd (omega arith) ]
]
  where
    any : (t : Bool) → t ≡ true → (t || m == 4) ≡ true
    any true e = refl
    any false e = absurd (false≢true e)

    four : (t : Bool) → (m == 4) ≡ true → (t || m == 4) ≡ true
    four true e = refl
    four false e = e

-- ---- the fragments of a reader
-- They are the largest first, or any.
abbrev pub AreKept : Bool → List ℕ → ℕ → Type 0
AreKept t ms n = (ms ≡ Per.largest_first n) ⊎ IsTrue t

pub kept_at : (t : Bool) (ms : List ℕ) (n k : ℕ) → n ≡ k → AreKept t ms n → AreKept t ms k
kept_at t ms n k e (inl f) = inl (f ∙ ap (λ i. Per.largest_first i) e)
kept_at t ms n k e (inr f) = inr f

pub kept_last : (t : Bool) (n : ℕ) → n < 16384 → AreKept t [] n
kept_last t n h = inl (sym (none_of_them n h))

pub kept_more : (t : Bool) (m n : ℕ) (ms : List ℕ) → 1 ≤ m → m ≤ 4 → may_follow t m n ≡ true → AreKept t ms n → AreKept t (m ∷ ms) (m * 16384 + n)
kept_more t m n ms l u h (inr e) = inr e
kept_more t m n ms l u h (inl e) = elim (follow_cases t m n h) [
  | inl x ↦ inr x
  | inr x ↦
      let f : m ≡ min ((m * 16384 + n) / 16384) 4 = elim x [ inl y ↦ omega arith | inr y ↦ omega arith ] in
      let r : m * 16384 + n - m * 16384 ≡ n = omega arith in
      inl (ap (λ l. m ∷ l) e ∙ ap (λ k. m ∷ Per.largest_first k) (sym r) ∙ sym (first_of_them (m * 16384 + n) m (omega arith) f))
]

pub kept_behind : (t : Bool) (m n : ℕ) (ms : List ℕ) → 1 ≤ m → m ≤ 4 → AreKept t (m ∷ ms) (m * 16384 + n) → (may_follow t m n ≡ true) × AreKept t ms n
kept_behind t m n ms l u (inr e) = (follows_any t m n e, inr e)
kept_behind t m n ms l u (inl e) =
    let all = m * 16384 + n in
    let k = min (all / 16384) 4 in
    let f : m ∷ ms ≡ k ∷ Per.largest_first (all - k * 16384) = e ∙ first_of_them all k (omega arith) refl in
    let g : m ≡ k = cc in
    let h : ms ≡ Per.largest_first (all - k * 16384) = cc in
    let r : all - k * 16384 ≡ n = omega arith in
    (elim (cases_lt n 16384) [ inl y ↦ follows_last t m n y | inr y ↦ follows_four t m n (omega arith) ], inl (h ∙ ap (λ i. Per.largest_first i) r))
