-- The binary digits of a number, joined and cut, and the bits of octets.
use Rattle.std.proofs.Common.{◌≡◌, ℕ, zero, suc, ◌+◌, ◌-◌, ◌*◌, ◌/◌, ◌%◌, ◌^◌, ◌<◌, ◌≤◌, ◌==◌, Bool, true, false, List}
use Rattle.std.proofs.Common.{[], ◌∷◌, ◌++◌, length, replicate, take, drop, refl, ap, sym, ◌∙◌, append_assoc}
use Rattle.std.proofs.Common.{length-append, arith}
use Rattle.std.proofs.lemmas.Nat.{shr-shr, mod-mul-add, field_of, pow_pos, div-mul-add, mod-pow-add}
use Rattle.std.proofs.lemmas.Nat.Bits.{bit_at_ones}
use Rattle.std.proofs.lemmas.List.{replicate-append-replicate, take_at, drop_at, append-nil, take-append-drop, length-take-le}
use Rattle.std.proofs.Math.Nat.{zero-add, suc-add, add_comm, zero-div}
use Rattle.std.proofs.Math.Pow.{mod-mod-pow}
use Rattle.asn1_model.specs.Numbers.{binary, octet_bits}

pub length-binary : (w n : ℕ) → length (binary w n) ≡ w
length-binary zero n = refl
length-binary (suc w) n = ap suc (length-binary w n)

-- the high digits and the low ones
pub binary_split : (a b n : ℕ) → binary (a + b) n ≡ binary a (n / 2 ^ b) ++ binary b n
binary_split zero b n = rw zero-add
binary_split (suc a) b n =
    let e : n / 2 ^ (a + b) ≡ n / 2 ^ b / 2 ^ a = ap (λ k. n / 2 ^ k) (add_comm a b) ∙ sym (shr-shr n b a) in
    ap (λ k. binary k n) (suc-add a b) ∙ ap (λ x. (x % 2 == 1) ∷ binary (a + b) n) e ∙ ap (λ l. (n / 2 ^ b / 2 ^ a % 2 == 1) ∷ l) (binary_split a b n)

-- digits above do not count
pub binary_below : (b j n : ℕ) → binary b (n % 2 ^ (j + b)) ≡ binary b n
binary_below zero j n = refl
binary_below (suc b) j n =
    let w : j + suc b ≡ j + 1 + b = omega arith in
    let e : n % 2 ^ (j + 1 + b) / 2 ^ b % 2 ≡ n / 2 ^ b % 2 = ap (λ x. x % 2) (field_of n (j + 1) b) ∙ mod-mod-pow (n / 2 ^ b) j 1 in
    ap (λ k. binary (suc b) (n % 2 ^ k)) w ∙ ap (λ x. (x == 1) ∷ binary b (n % 2 ^ (j + 1 + b))) e ∙ ap (λ l. (n / 2 ^ b % 2 == 1) ∷ l) (binary_below b (j + 1) n)

pub binary_low : (b n : ℕ) → binary b (n % 2 ^ b) ≡ binary b n
binary_low b n = ap (λ k. binary b (n % 2 ^ k)) (sym (zero-add b)) ∙ binary_below b 0 n

pub binary_join : (a b x y : ℕ) → y < 2 ^ b → binary a x ++ binary b y ≡ binary (a + b) (x * 2 ^ b + y)
binary_join a b x y h =
    sym (binary_split a b (x * 2 ^ b + y) ∙ ap (λ k. binary a k ++ binary b (x * 2 ^ b + y)) (div-mul-add x (2 ^ b) y h)
    ∙ ap (λ l. binary a x ++ l) (sym (binary_low b (x * 2 ^ b + y)) ∙ ap (binary b) (mod-mul-add x (2 ^ b) y h)))

pub binary_cut : (a b n : ℕ) → binary (a + b) n ≡ binary a (n / 2 ^ b) ++ binary b (n % 2 ^ b)
binary_cut a b n = binary_split a b n ∙ ap (λ l. binary a (n / 2 ^ b) ++ l) (sym (binary_low b n))

pub binary_zero : (w : ℕ) → binary w 0 ≡ replicate w false
binary_zero zero = refl
binary_zero (suc w) = ap (λ x. (x % 2 == 1) ∷ binary w 0) (zero-div (2 ^ w)) ∙ ap (λ l. false ∷ l) (binary_zero w)

-- a number shifted to the left
pub binary_shifted : (a b x : ℕ) → binary (a + b) (x * 2 ^ b) ≡ binary a x ++ replicate b false
binary_shifted a b x =
    let e : x * 2 ^ b + 0 ≡ x * 2 ^ b = omega arith in
    ap (binary (a + b)) (sym e) ∙ sym (binary_join a b x 0 (pow_pos b)) ∙ ap (λ l. binary a x ++ l) (binary_zero b)

odd_or_not : (n : ℕ) → (n % 2 == 1) ≡ false → n % 2 ≡ 0
odd_or_not n h = grind arith

-- digits that are all zero
pub low_zeros : (w x : ℕ) → binary w x ≡ replicate w false → x % 2 ^ w ≡ 0
low_zeros zero x e = omega arith
low_zeros (suc w) x e =
    let head : (x / 2 ^ w % 2 == 1) ≡ false = cc in
    let tail : binary w x ≡ replicate w false = cc in
    let top : x / 2 ^ w % 2 ≡ 0 = odd_or_not (x / 2 ^ w) head in
    let one : 1 + w ≡ suc w = omega arith in
    ap (λ k. x % 2 ^ k) (sym one) ∙ mod-pow-add x 1 w ∙ ap (λ t. t * 2 ^ w + x % 2 ^ w) top ∙ (omega (arith, low_zeros w x tail))

-- two lists joined of parts whose ends are equally long
pub same_fronts : (p q r s : List Bool) → length q ≡ length s → p ++ q ≡ r ++ s → p ≡ r
same_fronts p q r s h e =
    let n : length p ≡ length r = omega (arith, ap length e, length-append p q, length-append r s) in
    sym (take_at p q (length p) refl) ∙ ap (take (length p)) e ∙ take_at r s (length p) (sym n)

pub same_backs : (p q r s : List Bool) → length q ≡ length s → p ++ q ≡ r ++ s → q ≡ s
same_backs p q r s h e =
    let n : length p ≡ length r = omega (arith, ap length e, length-append p q, length-append r s) in
    sym (drop_at p q (length p) refl) ∙ ap (drop (length p)) e ∙ drop_at r s (length p) (sym n)

pub length-octet_bits : (os : List ℕ) → length (octet_bits os) ≡ length os * 8
length-octet_bits [] = refl
length-octet_bits (o ∷ os) = length-append (binary 8 o) (octet_bits os) ∙ (omega (arith, length-binary 8 o, length-octet_bits os))

pub octet_bits-append : (xs ys : List ℕ) → octet_bits (xs ++ ys) ≡ octet_bits xs ++ octet_bits ys
octet_bits-append [] ys = refl
octet_bits-append (x ∷ xs) ys = ap (λ l. binary 8 x ++ l) (octet_bits-append xs ys) ∙ sym (append_assoc (binary 8 x) (octet_bits xs) (octet_bits ys))

pub octet_bits_push : (xs : List ℕ) (x : ℕ) → octet_bits (xs ++ x ∷ []) ≡ octet_bits xs ++ binary 8 x
octet_bits_push xs x = octet_bits-append xs (x ∷ []) ∙ ap (λ l. octet_bits xs ++ l) (append-nil (binary 8 x))

pub octet_bits-take : (k : ℕ) (os : List ℕ) → k ≤ length os → octet_bits (take k os) ≡ take (k * 8) (octet_bits os)
octet_bits-take k os h =
    let n : length (octet_bits (take k os)) ≡ k * 8 = omega (arith, length-octet_bits (take k os), length-take-le k os h) in
    sym (ap (λ l. take (k * 8) (octet_bits l)) (sym (take-append-drop k os)) ∙ ap (take (k * 8)) (octet_bits-append (take k os) (drop k os)) ∙
    take_at (octet_bits (take k os)) (octet_bits (drop k os)) (k * 8) n)

-- the largest number of k binary digits has ones alone
pub binary_ones : (k w : ℕ) → w ≤ k → binary w (2 ^ k - 1) ≡ replicate w true
binary_ones k zero h = refl
binary_ones k (suc w) h = ap (λ x. (x == 1) ∷ binary w (2 ^ k - 1)) (bit_at_ones k w (omega arith)) ∙ ap (λ l. true ∷ l) (binary_ones k w (omega arith))

-- equal bits from a number of equal digits
pub binary_same : (w n : ℕ) (b : Bool) → w ≤ 128 → (b ≡ true → n ≡ 2 ^ 128 - 1) → (b ≡ false → n ≡ 0) → binary w n ≡ replicate w b
binary_same w n true h p q = ap (binary w) (p refl) ∙ binary_ones 128 w h
binary_same w n false h p q = ap (binary w) (q refl) ∙ binary_zero w

-- some of the equal bits, and then the rest of them
pub same_next : (bs new : List Bool) (b : Bool) (few left n : ℕ) → few ≤ left → new ≡ bs ++ binary few n → binary few n ≡ replicate few b → new ++ replicate (left - few) b ≡ bs ++ replicate left b
same_next bs new b few left n h e s =
    let all : few + (left - few) ≡ left = omega arith in
    ap (λ l. l ++ replicate (left - few) b) (e ∙ ap (λ l. bs ++ l) s) ∙ append_assoc bs (replicate few b) (replicate (left - few) b)
    ∙ ap (λ l. bs ++ l) (replicate-append-replicate few (left - few) b ∙ ap (λ k. replicate k b) all)
