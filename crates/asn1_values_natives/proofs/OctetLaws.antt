-- Laws of octets as numbers.
use Rattle.std.proofs.Common.{◌≡◌, ℕ, zero, suc, ◌+◌, ◌-◌, ◌*◌, ◌/◌, ◌%◌, ◌^◌, ◌<◌, ◌≤◌, ◌==◌, Bool, true, false, ◌&&◌}
use Rattle.std.proofs.Common.{◌||◌, List, [], ◌∷◌, ◌++◌, length, map, take, drop, set, get_or, pos, negsuc, ◌-ℤ◌, ◌⊎◌}
use Rattle.std.proofs.Common.{inl, inr, leb, ltb, refl, ap, sym, ◌∙◌, arith}
use Rattle.std.specs.List.{AllByRecursion}
use Rattle.std.proofs.Math.Nat.{pow-suc, pow-le-pow_right, mod-eq_of_lt, div-div-eq-div-mul}
use Rattle.std.proofs.Math.Arith.{mod-mul}
use Rattle.std.proofs.lemmas.Int.{ints}
use Rattle.std.proofs.lemmas.Bool.Decides.{nat_tests}
use Rattle.std.proofs.lemmas.Nat.{mul-add-lt, mod-mul-add, div-mul-add}
use Rattle.std.proofs.lemmas.List.{take_more, map-append, drop-set}
use Rattle.asn1_model.specs.Numbers.{digits}
use Rattle.asn1_values_natives.specs.Octets.{unsigned_number, signed_number, is_padded, sign_free}
use Rattle.std.specs.Int.Digits.{number_from_digits_after}

abbrev pub AreOctets : List ℕ → Type 0
AreOctets os = AllByRecursion (λ o. o < 256) os

pub unsigned-lt : (os : List ℕ) → AreOctets os → unsigned_number os < 256 ^ length os
unsigned-lt [] h = omega arith
unsigned-lt (o ∷ os) h = rw (pow-suc 256 (length os)) (mul-add-lt o (256 ^ length os) (unsigned_number os) 256 h.0 (unsigned-lt os h.1))

pub pow_pos256 : (k : ℕ) → 0 < 256 ^ k
pow_pos256 k = let h : 256 ^ 0 ≤ 256 ^ k = pow-le-pow_right (omega arith) {i = 0} {j = k} (omega arith) in omega arith

-- ---- complemented octets

weighed : (d o p u v : ℕ) → d + o ≡ 255 → u + v + 1 ≡ p → (d * p + u) + (o * p + v) + 1 ≡ p * 256
weighed d o p u v e h = let f : (d + o) * p ≡ 255 * p = ap (λ x. x * p) e in omega arith

pub length-sign_free : (b : Bool) (os : List ℕ) → length (map (sign_free b) os) ≡ length os
length-sign_free b [] = refl
length-sign_free b (o ∷ os) = ap suc (length-sign_free b os)

pub octets-sign_free : (b : Bool) (os : List ℕ) → AreOctets os → AreOctets (map (sign_free b) os)
octets-sign_free b [] h = h
octets-sign_free true (o ∷ os) h = (omega arith, octets-sign_free true os h.1)
octets-sign_free false (o ∷ os) h = (h.0, octets-sign_free false os h.1)

pub sign_free-false : (os : List ℕ) → map (sign_free false) os ≡ os
sign_free-false [] = refl
sign_free-false (o ∷ os) = ap (λ l. o ∷ l) (sign_free-false os)

pub sign_free-twice : (os : List ℕ) → AreOctets os → map (sign_free true) (map (sign_free true) os) ≡ os
sign_free-twice [] h = refl
sign_free-twice (o ∷ os) h = let e : 255 - (255 - o) ≡ o = omega arith in let t = sign_free-twice os h.1 in cc

pub unsigned-turned : (os : List ℕ) → AreOctets os → unsigned_number (map (sign_free true) os) + unsigned_number os + 1 ≡ 256 ^ length os
unsigned-turned [] h = refl
unsigned-turned (o ∷ os) h =
    rw (pow-suc 256 (length os), length-sign_free true os)
    (weighed (255 - o) o (256 ^ length os) (unsigned_number (map (sign_free true) os)) (unsigned_number os) (omega arith) (unsigned-turned os h.1))

-- ---- the sign

at_low : (n p : ℕ) → pos n -ℤ pos 0 ≡ pos n
at_low n p = omega (arith, ints)

at_high : (n m p : ℕ) → m + n + 1 ≡ p → pos n -ℤ pos p ≡ negsuc m
at_high n m p h = omega (arith, ints)

leb_low : (o : ℕ) → o < 128 → leb 128 o ≡ false
leb_low o h = grind (arith, nat_tests)

leb_high : (o : ℕ) → 128 ≤ o → leb 128 o ≡ true
leb_high o h = grind (arith, nat_tests)

pub signed-low : (o : ℕ) (os : List ℕ) → o < 128 → signed_number (o ∷ os) ≡ pos (unsigned_number (o ∷ os))
signed-low o os h = rw (leb_low o h) (at_low _ 0)

pub signed-high : (o : ℕ) (os : List ℕ) → 128 ≤ o → AreOctets (o ∷ os) → signed_number (o ∷ os) ≡ negsuc (unsigned_number (map (sign_free true) (o ∷ os)))
signed-high o os h a = rw (leb_high o h) (at_high _ _ _ (unsigned-turned (o ∷ os) a))

-- ---- padding

pub signed-padded_low : (o : ℕ) (os : List ℕ) → o < 128 → signed_number (0 ∷ o ∷ os) ≡ signed_number (o ∷ os)
signed-padded_low o os h = signed-low 0 (o ∷ os) (omega arith) ∙ ap pos (omega arith) ∙ sym (signed-low o os h)

pub signed-padded_high : (o : ℕ) (os : List ℕ) → 128 ≤ o → AreOctets (o ∷ os) → signed_number (255 ∷ o ∷ os) ≡ signed_number (o ∷ os)
signed-padded_high o os h a =
    signed-high 255 (o ∷ os) (omega arith) (omega arith, a) ∙ ap negsuc (omega arith) ∙ sym (signed-high o os h a)

padded_cases : (a o : ℕ) → ((a == 0) && ltb o 128) || ((a == 255) && leb 128 o) ≡ true → ((a ≡ 0) × (o < 128)) ⊎ ((a ≡ 255) × (128 ≤ o))
padded_cases a o e = grind (arith, nat_tests)

pub signed-padded : (a : ℕ) (os : List ℕ) → AreOctets (a ∷ os) → is_padded (a ∷ os) ≡ true → signed_number os ≡ signed_number (a ∷ os)
signed-padded a [] h e = cc
signed-padded a (o ∷ os) h e = at_cases (padded_cases a o e)
  where
    at_cases : ((a ≡ 0) × (o < 128)) ⊎ ((a ≡ 255) × (128 ≤ o)) → signed_number (o ∷ os) ≡ signed_number (a ∷ o ∷ os)
    at_cases (inl c) = rw c.0 (sym (signed-padded_low o os c.1))
    at_cases (inr c) = rw c.0 (sym (signed-padded_high o os c.1 h.1))

-- ---- one octet more

push : (o p u x : ℕ) → o * (p * 256) + (u * 256 + x) ≡ (o * p + u) * 256 + x
push o p u x = omega arith

length-push : (os : List ℕ) (x : ℕ) → length (os ++ x ∷ []) ≡ suc (length os)
length-push [] x = refl
length-push (o ∷ os) x = ap suc (length-push os x)

pub unsigned-push : (os : List ℕ) (x : ℕ) → unsigned_number (os ++ x ∷ []) ≡ unsigned_number os * 256 + x
unsigned-push [] x = omega arith
unsigned-push (o ∷ os) x =
    rw (length-push os x, pow-suc 256 (length os), unsigned-push os x) (push o (256 ^ length os) (unsigned_number os) x)

-- ---- digits

pub length-digits : (k n : ℕ) → length (digits 256 k n) ≡ k
length-digits zero n = refl
length-digits (suc k) n = ap suc (length-digits k n)

pub octets-digits : (k n : ℕ) → AreOctets (digits 256 k n)
octets-digits zero n = tt
octets-digits (suc k) n = (omega arith, octets-digits k n)

low_digits : (n p : ℕ) → 0 < p → n % (p * 256) ≡ n / p % 256 * p + n % p
low_digits n p h = ap (λ x. n % x) (omega arith) ∙ mod-mul n {m = 256} {c = p} (omega arith) h

pub unsigned-digits_mod : (k n : ℕ) → unsigned_number (digits 256 k n) ≡ n % 256 ^ k
unsigned-digits_mod zero n = omega arith
unsigned-digits_mod (suc k) n =
    rw (length-digits k n, unsigned-digits_mod k n, pow-suc 256 k) (sym (low_digits n (256 ^ k) (pow_pos256 k)))

regrouped : (hi o p u : ℕ) → hi * (p * 256) + (o * p + u) ≡ (hi * 256 + o) * p + u
regrouped hi o p u = omega arith

top_digit : (hi o p u : ℕ) → o < 256 → u < p → (hi * (p * 256) + (o * p + u)) / p % 256 ≡ o
top_digit hi o p u h l =
    ap (λ x. x / p % 256) (regrouped hi o p u) ∙ ap (λ x. x % 256) (div-mul-add (hi * 256 + o) p u l) ∙ mod-mul-add hi 256 o h

pub digits-unsigned_behind : (hi : ℕ) (os : List ℕ) → AreOctets os → digits 256 (length os) (hi * 256 ^ length os + unsigned_number os) ≡ os
digits-unsigned_behind hi [] h = refl
digits-unsigned_behind hi (o ∷ os) h =
    rw (pow-suc 256 (length os), top_digit hi o (256 ^ length os) (unsigned_number os) h.0 (unsigned-lt os h.1), regrouped hi o (256 ^ length os) (unsigned_number os))
    (ap (λ l. o ∷ l) (digits-unsigned_behind (hi * 256 + o) os h.1))

pub digits-unsigned : (os : List ℕ) → AreOctets os → digits 256 (length os) (unsigned_number os) ≡ os
digits-unsigned os h = let e : unsigned_number os ≡ 0 * 256 ^ length os + unsigned_number os = omega arith in rw e (digits-unsigned_behind 0 os h)

pub unsigned-digits : (k n : ℕ) → n < 256 ^ k → unsigned_number (digits 256 k n) ≡ n
unsigned-digits k n h = unsigned-digits_mod k n ∙ mod-eq_of_lt h

-- complementing the digits is subtracting from the greatest number
pub digits-turned : (k n : ℕ) → n < 256 ^ k → map (sign_free true) (digits 256 k n) ≡ digits 256 k (256 ^ k - 1 - n)
digits-turned k n h =
    let ds : List ℕ = map (sign_free true) (digits 256 k n) in
    let o : AreOctets ds = octets-sign_free true (digits 256 k n) (octets-digits k n) in
    let l : length ds ≡ k = length-sign_free true (digits 256 k n) ∙ length-digits k n in
    let u : unsigned_number ds + unsigned_number (digits 256 k n) + 1 ≡ 256 ^ length (digits 256 k n) = unsigned-turned (digits 256 k n) (octets-digits k n) in
    let v : unsigned_number (digits 256 k n) ≡ n = unsigned-digits k n h in
    let t = rw (length-digits k n, v) at u in
    let w : unsigned_number ds ≡ 256 ^ k - 1 - n = omega (arith, t) in
    let d : digits 256 (length ds) (unsigned_number ds) ≡ ds = digits-unsigned ds o in
    sym d ∙ ap (λ x. digits 256 x (unsigned_number ds)) l ∙ ap (λ x. digits 256 k x) w

-- ---- reading octets one by one

-- a number of at most fifteen octets has room for one more in 128 bits
pub room : (i n : ℕ) → i ≤ 15 → n < 256 ^ i → n * 256 + 255 < 2 ^ 128
room i n h l = let p : 256 ^ i ≤ 256 ^ 15 = pow-le-pow_right (omega arith) {i = i} {j = 15} h in omega arith

pub octet_room : (i n d : ℕ) → n < 256 ^ i → d < 256 → n * 256 + d < 256 ^ (i + 1)
octet_room i n d l h = let e : 256 ^ (i + 1) ≡ 256 ^ i * 256 = ap (λ k. 256 ^ k) (omega arith) ∙ pow-suc 256 i in omega arith

pub unsigned-more : (b : Bool) (os : List ℕ) (i n : ℕ) → i < length os → n ≡ unsigned_number (map (sign_free b) (take i os)) →
    n * 256 + sign_free b (get_or os i 0) ≡ unsigned_number (map (sign_free b) (take (i + 1) os))
unsigned-more b os i n h e =
    let t : take (i + 1) os ≡ take i os ++ get_or os i 0 ∷ [] = take_more os i 0 h in
    let m : map (sign_free b) (take (i + 1) os) ≡ map (sign_free b) (take i os) ++ sign_free b (get_or os i 0) ∷ [] = ap (map (sign_free b)) t ∙
    map-append (sign_free b) (take i os) (get_or os i 0 ∷ []) in
    rw (m, unsigned-push (map (sign_free b) (take i os)) (sign_free b (get_or os i 0)), e) refl

-- ---- writing octets from the last one on

pub digit-more : (b : Bool) (octets : List ℕ) (i n d : ℕ) → i < 17 → length octets ≡ 17 → drop (17 - i) octets ≡ map (sign_free b) (digits 256 i n) →
    d ≡ sign_free b (n / 256 ^ i % 256) → drop (17 - (i + 1)) (set octets (16 - i) d) ≡ map (sign_free b) (digits 256 (i + 1) n)
digit-more b octets i n d h l e f =
    let s : drop (16 - i) (set octets (16 - i) d) ≡ d ∷ drop (16 - i + 1) octets = drop-set octets (16 - i) d (omega arith) in
    let p : 17 - (i + 1) ≡ 16 - i = omega arith in
    let q : 16 - i + 1 ≡ 17 - i = omega arith in
    let r : i + 1 ≡ suc i = omega arith in
    rw (p, s, q, e, r, f) refl

pub rest-more : (n i r : ℕ) → r ≡ n / 256 ^ i → r / 256 ≡ n / 256 ^ (i + 1)
rest-more n i r e =
    let p : 256 ^ (i + 1) ≡ 256 ^ i * 256 = ap (λ k. 256 ^ k) (omega arith) ∙ pow-suc 256 i in
    rw (e, p) (div-div-eq-div-mul n (256 ^ i) 256)

-- ---- the number of digits

behind : (n : ℕ) (os : List ℕ) → number_from_digits_after 256 n os ≡ n * 256 ^ length os + unsigned_number os
behind n [] = omega arith
behind n (o ∷ os) =
    let h = behind (n * 256 + o) os in
    let p : 256 ^ suc (length os) ≡ 256 ^ length os * 256 = pow-suc 256 (length os) in
    h ∙ regroup n o (256 ^ length os) (unsigned_number os) ∙ ap (λ x. n * x + (o * 256 ^ length os + unsigned_number os)) (sym p)
  where
    regroup : (n o p u : ℕ) → (n * 256 + o) * p + u ≡ n * (p * 256) + (o * p + u)
    regroup n o p u = omega arith

pub unsigned-after : (os : List ℕ) → unsigned_number os ≡ number_from_digits_after 256 0 os
unsigned-after os = let h = behind 0 os in omega arith
