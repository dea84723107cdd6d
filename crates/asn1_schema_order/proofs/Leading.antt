-- If the numbers of the first octets of two encodings differ, their order is that of the encodings.
use Rattle.std.proofs.Common.{◌≡◌, ℕ, zero, suc, ◌+◌, ◌-◌, ◌*◌, ◌/◌, ◌^◌, ◌<◌, ◌≤◌, List, [], ◌∷◌, length, get_or, take, refl, ap, sym, ◌∙◌, arith}
use Rattle.std.specs.Cmp.{ranked}
use Rattle.std.specs.Cmp.Lexicographic.{slice_cmp}
use Rattle.std.specs.Ordering.{nat_cmp, ordering_then, ordering_reverse, MatchOrdering}
use Rattle.std.specs.declared.cmp.Ordering.{Ordering}
use Rattle.std.specs.declared.cmp.Ordering.TheVariants.{Less, Equal, Greater}
use Rattle.std.proofs.Math.Nat.{mul-le-mul_right, pow-suc}
use Rattle.std.proofs.lemmas.Cmp.{nat_list_cmp_total}
use Rattle.std.proofs.lemmas.Nat.{mul-add-lt}
use Rattle.asn1_schema_order.specs.LeadingOctets.{leading}

-- each is below 256
abbrev pub AreOctets : List ℕ → Type 0
AreOctets os = (i : ℕ) → get_or os i 0 < 256

-- ---- the numbers

leading_none : (n : ℕ) → leading n [] ≡ 0
leading_none zero = refl
leading_none (suc n) = refl

none_below : (n : ℕ) → 0 < 256 ^ n
none_below zero = omega arith
none_below (suc n) = let h = none_below n in rw (pow-suc 256 n) (omega (arith, h))

leading_below : (n : ℕ) (os : List ℕ) → AreOctets os → leading n os < 256 ^ n
leading_below zero os h = omega arith
leading_below (suc n) [] h = none_below (suc n)
leading_below (suc n) (o ∷ os) h = rw (pow-suc 256 n) (mul-add-lt o (256 ^ n) (leading n os) 256 (h 0) (leading_below n os (λ i. h (suc i))))

-- ---- their order

-- the first octets decide if they differ
first_tells : (x y p u v : ℕ) → y < x → v < p → x * p + u < y * p + v → ⊥
first_tells x y p u v h k l = let m : (y + 1) * p ≤ x * p = mul-le-mul_right p (omega (arith, h)) in omega (arith, k, l, m)

same_first : (x y p u v : ℕ) → x ≡ y → x * p + u < y * p + v → u < v
same_first x y p u v e l = let m : x * p ≡ y * p = ap (λ z. z * p) e in omega (arith, l, m)

by_first : (x y : ℕ) (r s : Ordering) → MatchOrdering r (x < y) (x ≡ y) (y < x) → (x ≡ y → s ≡ Less) → (y < x → ⊥) → ordering_then r s ≡ Less
by_first x y Less s m f g = refl
by_first x y Equal s m f g = f m
by_first x y Greater s m f g = absurd (g m)

leads_less : (n : ℕ) (xs ys : List ℕ) → AreOctets ys → leading n xs < leading n ys → slice_cmp nat_cmp xs ys ≡ Less
leads_less zero xs ys a h = absurd (omega (arith, h))
leads_less (suc n) [] [] a h = absurd (omega (arith, h))
leads_less (suc n) [] (y ∷ ys) a h = refl
leads_less (suc n) (x ∷ xs) [] a h = absurd (omega (arith, h))
leads_less (suc n) (x ∷ xs) (y ∷ ys) a h =
    by_first x y (nat_cmp x y) (slice_cmp nat_cmp xs ys) (ranked x y (nat_cmp x y) refl)
    (λ e. leads_less n xs ys (λ i. a (suc i)) (same_first x y (256 ^ n) (leading n xs) (leading n ys) e h))
    (λ g. first_tells x y (256 ^ n) (leading n xs) (leading n ys) g (leading_below n ys (λ i. a (suc i))) h)

leads_greater : (n : ℕ) (xs ys : List ℕ) → AreOctets xs → leading n ys < leading n xs → slice_cmp nat_cmp xs ys ≡ Greater
leads_greater n xs ys a h = nat_list_cmp_total.antisymm xs ys ∙ ap ordering_reverse (leads_less n ys xs a h)

-- octets after the number of the first compare as the octets alone
pub leads : (n a b : ℕ) (xs ys : List ℕ) → a ≡ leading n xs → b ≡ leading n ys → AreOctets xs → AreOctets ys → slice_cmp nat_cmp (a ∷ xs) (b ∷ ys) ≡ slice_cmp nat_cmp xs ys
leads n a b xs ys e f p q = go (nat_cmp a b) (ranked a b (nat_cmp a b) refl)
  where
    go : (r : Ordering) → MatchOrdering r (a < b) (a ≡ b) (b < a) → ordering_then r (slice_cmp nat_cmp xs ys) ≡ slice_cmp nat_cmp xs ys
    go Less h = sym (leads_less n xs ys q (omega (arith, h, e, f)))
    go Equal h = refl
    go Greater h = sym (leads_greater n xs ys p (omega (arith, h, e, f)))

-- ---- the number, octet by octet

-- the place value of the first of a number of octets, and zero if there are none
abbrev pub worth : ℕ → ℕ
worth zero = 0
worth (suc n) = 256 ^ n

worth_behind : (m : ℕ) → worth (suc m) / 256 ≡ worth m
worth_behind zero = refl
worth_behind (suc m) = rw (pow-suc 256 m) (omega arith)

pub worth_next : (n m : ℕ) → n ≡ suc m → worth n / 256 ≡ worth m
worth_next n m e = ap (λ k. worth k / 256) e ∙ worth_behind m

leading_more : (n i m : ℕ) (os : List ℕ) (d : ℕ) → n ≡ i + suc m → i < length os → leading n (take (suc i) os) ≡ leading n (take i os) + get_or os i d * 256 ^ m
leading_more zero i m os d e k = absurd (omega (arith, e))
leading_more (suc n) i m [] d e k = absurd (omega (arith, k))
leading_more (suc n) zero m (o ∷ os) d e k =
    let p : o * 256 ^ n ≡ o * 256 ^ m = ap (λ j. o * 256 ^ j) (omega (arith, e)) in
    omega (arith, leading_none n, p)
leading_more (suc n) (suc i) m (o ∷ os) d e k =
    ap (λ v. o * 256 ^ n + v) (leading_more n i m os d (omega (arith, e)) (omega (arith, k))) ∙ regrouped (o * 256 ^ n) (leading n (take i os)) (get_or os i d * 256 ^ m)
  where
    regrouped : (a b c : ℕ) → a + (b + c) ≡ a + b + c
    regrouped a b c = omega arith

leading_next : (n i m : ℕ) (os : List ℕ) (d : ℕ) → n ≡ i + suc m → i < length os → leading n (take (i + 1) os) ≡ leading n (take i os) + get_or os i d * 256 ^ m
leading_next n i m os d e h = let j : i + 1 ≡ suc i = omega arith in ap (λ k. leading n (take k os)) j ∙ leading_more n i m os d e h

pub octets_take : (n : ℕ) (os : List ℕ) → AreOctets os → AreOctets (take n os)
octets_take zero os h i = omega arith
octets_take (suc n) [] h i = omega arith
octets_take (suc n) (o ∷ os) h zero = h 0
octets_take (suc n) (o ∷ os) h (suc i) = octets_take n os (λ j. h (suc j)) i

-- one more octet, with its weight
pub with_next : (os : List ℕ) (i front weight octet : ℕ) → i < 8 → i < length os → front ≡ leading 8 (take i os) → weight
    ≡ worth (8 - i) → octet ≡ get_or os i 0 → front + octet * weight ≡ leading 8 (take (i + 1) os)
with_next os i front weight octet h k e f g =
    let j : 8 - i ≡ suc (7 - i) = omega (arith, h) in
    let w : weight ≡ 256 ^ (7 - i) = f ∙ ap worth j in
    ap (λ x. x + octet * weight) e ∙ ap (λ x. leading 8 (take i os) + x * weight) g ∙ ap (λ x. leading 8 (take i os) + get_or os i 0 * x) w
    ∙ sym (leading_next 8 i (7 - i) os 0 (omega (arith, h)) k)

-- it fits
pub room : (os : List ℕ) (i front weight octet : ℕ) → AreOctets os → i < 8 → i < length os → front ≡ leading 8 (take i os) → weight
    ≡ worth (8 - i) → octet ≡ get_or os i 0 → front + octet * weight < 2 ^ 64
room os i front weight octet a h k e f g =
    let sum = with_next os i front weight octet h k e f g in
    let most = leading_below 8 (take (i + 1) os) (octets_take (i + 1) os a) in
    omega (arith, sum, most)

-- those after the first do not decide
pub leading_front : (n k : ℕ) (os : List ℕ) → (k < n → length os ≤ k) → leading n (take k os) ≡ leading n os
leading_front zero k os h = refl
leading_front (suc n) zero [] h = refl
leading_front (suc n) zero (o ∷ os) h = absurd (let l = h (omega arith) in omega (arith, l))
leading_front (suc n) (suc k) [] h = refl
leading_front (suc n) (suc k) (o ∷ os) h = ap (λ m. o * 256 ^ n + m) (leading_front n k os (λ l. let m = h (omega (arith, l)) in omega (arith, m)))
