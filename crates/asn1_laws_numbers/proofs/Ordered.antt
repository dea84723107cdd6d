-- Octets have the order of their bits.
use Rattle.std.proofs.Common.{◌≡◌, ℕ, zero, suc, ◌+◌, ◌*◌, ◌/◌, ◌%◌, ◌^◌, ◌<◌, ◌≤◌, ◌==◌, ◌⊎◌, inl, inr, ltb, lit<, Bool, true, false, cond, List, [], ◌∷◌, ◌++◌, refl, ap, sym, ◌∙◌, arith}
use Rattle.std.proofs.lemmas.Bool.{ltb-true, lt-ltb, le-ltb, and_parts}
use Rattle.std.proofs.lemmas.Bool.Decides.{leb_tells}
use Rattle.std.proofs.lemmas.Nat.{mod_below}
use Rattle.std.proofs.Math.Nat.{mod-eq_of_lt, pow-succ', one-le-pow}
use Rattle.std.proofs.Math.Arith.{mod-mul}
use Rattle.asn1_model.specs.Numbers.{binary, octet_bits}
use Rattle.asn1_model.specs.Strings.{is_octet}
use Rattle.std.specs.List.{list_all}
use Rattle.asn1_model.specs.Form.{stands_before}
use Rattle.asn1_model.specs.Per.{bit_less}

order : (m n : ℕ) → (m < n) ⊎ (n ≤ m)
order m n = elim (leb_tells (suc m) n) [ inl h ↦ inl (omega arith) | inr h ↦ inr (omega arith) ]

-- the first of two numbers is less, or greater, or what follows decides
three : ℕ → ℕ → Bool → Bool
three m n z = cond (ltb m n) true (cond (ltb n m) false z)

three_less : (m n : ℕ) (z : Bool) → m < n → three m n z ≡ true
unfolding three
three_less m n z h = let a = lt-ltb m n h in rw a refl

three_more : (m n : ℕ) (z : Bool) → n < m → three m n z ≡ false
unfolding three
three_more m n z h = let a = le-ltb m n (omega arith) in let b = lt-ltb n m h in rw (a, b) refl

three_same : (m n : ℕ) (z : Bool) → m ≡ n → three m n z ≡ z
unfolding three
three_same m n z h = let a = le-ltb m n (omega arith) in let b = le-ltb n m (omega arith) in rw (a, b) refl

three_moved : (m n k l : ℕ) (z : Bool) → (m < n → k < l) → (n < m → l < k) → (m ≡ n → k ≡ l) → three m n z ≡ three k l z
three_moved m n k l z f g h = elim (order m n) [
  | inl a ↦ three_less m n z a ∙ sym (three_less k l z (f a))
  | inr a ↦ elim (order n m) [
    | inl b ↦ three_more m n z b ∙ sym (three_more k l z (g b))
    | inr b ↦ let e : m ≡ n = omega arith in three_same m n z e ∙ sym (three_same k l z (h e))
  ]
]

split : (w n : ℕ) → (n % 2 ^ suc w ≡ (n / 2 ^ w % 2) * 2 ^ w + n % 2 ^ w) × (n % 2 ^ w < 2 ^ w)
split w n =
    let p : 0 < 2 ^ w = one-le-pow w 2 (lit< tt) in
    (ap (λ x. n % x) (pow-succ' 2 w) ∙ mod-mul n (lit< tt) p, mod_below n (2 ^ w) p)

bit : (n : ℕ) → n < 2 → (n ≡ 0) ⊎ (n ≡ 1)
bit n h = elim (order n 1) [ inl a ↦ inl (omega arith) | inr a ↦ inr (omega arith) ]

before_by : (a b c d : Bool) (xs ys : List Bool) → a ≡ c → b ≡ d → stands_before bit_less (a ∷ xs) (b ∷ ys) ≡ stands_before bit_less (c ∷ xs) (d ∷ ys)
before_by a b c d xs ys e f = λ i. stands_before bit_less (e i ∷ xs) (f i ∷ ys)

numbers_before : (w m n : ℕ) (xs ys : List Bool) → stands_before bit_less (binary w m ++ xs) (binary w n ++ ys) ≡ three (m % 2 ^ w) (n % 2 ^ w) (stands_before bit_less xs ys)
numbers_before zero m n xs ys = sym (three_same (m % 2 ^ 0) (n % 2 ^ 0) _ (omega arith))
numbers_before (suc w) m n xs ys =
    let p = m / 2 ^ w % 2 in
    let q = n / 2 ^ w % 2 in
    let z = stands_before bit_less xs ys in
    let s = split w m in
    let t = split w n in
    let s0 = s.0 in
    let s1 = s.1 in
    let t0 = t.0 in
    let t1 = t.1 in
    let i = numbers_before w m n xs ys in
    let us = binary w m ++ xs in
    let vs = binary w n ++ ys in
    elim (bit p (mod_below (m / 2 ^ w) 2 (lit< tt))) [
      | inl a ↦ elim (bit q (mod_below (n / 2 ^ w) 2 (lit< tt))) [
        | inl b ↦ before_by (p == 1) (q == 1) false false us vs (ap (λ x. x == 1) a) (ap (λ x. x == 1) b) ∙ i
            ∙ three_moved (m % 2 ^ w) (n % 2 ^ w) (m % 2 ^ suc w) (n % 2 ^ suc w) z (λ h. higher w m n p q a b s0 t0 h) (λ h. higher w n m q p b a t0 s0 h) (λ h. level w m n p q 0 a b s0 t0 h)
        | inr b ↦ before_by (p == 1) (q == 1) false true us vs (ap (λ x. x == 1) a) (ap (λ x. x == 1) b) ∙ sym (three_less (m % 2 ^ suc w) (n % 2 ^ suc w) z (apart w m n p q a b s0 t0 s1))
      ]
      | inr a ↦ elim (bit q (mod_below (n / 2 ^ w) 2 (lit< tt))) [
        | inl b ↦ before_by (p == 1) (q == 1) true false us vs (ap (λ x. x == 1) a) (ap (λ x. x == 1) b) ∙ sym (three_more (m % 2 ^ suc w) (n % 2 ^ suc w) z (apart w n m q p b a t0 s0 t1))
        | inr b ↦ before_by (p == 1) (q == 1) true true us vs (ap (λ x. x == 1) a) (ap (λ x. x == 1) b) ∙ i
            ∙ three_moved (m % 2 ^ w) (n % 2 ^ w) (m % 2 ^ suc w) (n % 2 ^ suc w) z (λ h. higher_one w m n p q a b s0 t0 h) (λ h. higher_one w n m q p b a t0 s0 h) (λ h. level w m n p q 1 a b s0 t0 h)
      ]
    ]
  where
    level : (w m n p q k : ℕ) → p ≡ k → q ≡ k → m % 2 ^ suc w ≡ p * 2 ^ w + m % 2 ^ w → n % 2 ^ suc w ≡ q * 2 ^ w + n % 2 ^ w → m % 2 ^ w ≡ n % 2 ^ w → m % 2 ^ suc w ≡ n % 2 ^ suc w
    level w m n p q k a b s t h = s ∙ (λ i. (a i * 2 ^ w) + h i) ∙ sym (t ∙ ap (λ x. x * 2 ^ w + n % 2 ^ w) b)

    higher : (w m n p q : ℕ) → p ≡ 0 → q ≡ 0 → m % 2 ^ suc w ≡ p * 2 ^ w + m % 2 ^ w → n % 2 ^ suc w ≡ q * 2 ^ w + n % 2 ^ w → m % 2 ^ w < n % 2 ^ w → m % 2 ^ suc w < n % 2 ^ suc w
    higher w m n p q a b s t h =
        let s' : m % 2 ^ suc w ≡ 0 * 2 ^ w + m % 2 ^ w = s ∙ ap (λ x. x * 2 ^ w + m % 2 ^ w) a in
        let t' : n % 2 ^ suc w ≡ 0 * 2 ^ w + n % 2 ^ w = t ∙ ap (λ x. x * 2 ^ w + n % 2 ^ w) b in
        omega arith

    higher_one : (w m n p q : ℕ) → p ≡ 1 → q ≡ 1 → m % 2 ^ suc w ≡ p * 2 ^ w + m % 2 ^ w → n % 2 ^ suc w ≡ q * 2 ^ w + n % 2 ^ w → m % 2 ^ w < n % 2 ^ w → m % 2 ^ suc w < n % 2 ^ suc w
    higher_one w m n p q a b s t h =
        let s' : m % 2 ^ suc w ≡ 1 * 2 ^ w + m % 2 ^ w = s ∙ ap (λ x. x * 2 ^ w + m % 2 ^ w) a in
        let t' : n % 2 ^ suc w ≡ 1 * 2 ^ w + n % 2 ^ w = t ∙ ap (λ x. x * 2 ^ w + n % 2 ^ w) b in
        omega arith

    apart : (w m n p q : ℕ) → p ≡ 0 → q ≡ 1 → m % 2 ^ suc w ≡ p * 2 ^ w + m % 2 ^ w → n % 2 ^ suc w ≡ q * 2 ^ w + n % 2 ^ w → m % 2 ^ w < 2 ^ w → m % 2 ^ suc w < n % 2 ^ suc w
    apart w m n p q a b s t h =
        let s' : m % 2 ^ suc w ≡ 0 * 2 ^ w + m % 2 ^ w = s ∙ ap (λ x. x * 2 ^ w + m % 2 ^ w) a in
        let t' : n % 2 ^ suc w ≡ 1 * 2 ^ w + n % 2 ^ w = t ∙ ap (λ x. x * 2 ^ w + n % 2 ^ w) b in
        omega arith

pub ordered_as_bits : (os ps : List ℕ) → list_all is_octet os ≡ true → list_all is_octet ps ≡ true → stands_before bit_less (octet_bits os) (octet_bits ps) ≡ stands_before ltb os ps
unfolding three
ordered_as_bits [] [] h k = refl
ordered_as_bits [] (p ∷ ps) h k = refl
ordered_as_bits (o ∷ os) [] h k = refl
ordered_as_bits (o ∷ os) (p ∷ ps) h k =
    let h' = and_parts (is_octet o) (list_all is_octet os) h in
    let k' = and_parts (is_octet p) (list_all is_octet ps) k in
    let a : o % 2 ^ 8 ≡ o = mod-eq_of_lt (ltb-true o 256 h'.0) in
    let b : p % 2 ^ 8 ≡ p = mod-eq_of_lt (ltb-true p 256 k'.0) in
    numbers_before 8 o p (octet_bits os) (octet_bits ps) ∙ (λ i. three (a i) (b i) (ordered_as_bits os ps h'.1 k'.1 i))
