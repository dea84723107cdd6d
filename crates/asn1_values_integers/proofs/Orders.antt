-- The order of numbers by their fewest octets.
use Rattle.std.proofs.Common.{◌≡◌, ℕ, suc, ◌+◌, ◌*◌, ◌^◌, ◌<◌, ◌≤◌, Bool, true, false, List, [], ◌∷◌, length, map, ℤ, pos, negsuc, Ordering, Less, Equal, Greater, refl, ap, sym, ◌∙◌, arith, subst}
use Rattle.std.specs.Ordering.{MatchOrdering, nat_cmp, int_cmp, ordering_then}
use Rattle.std.specs.Cmp.Lexicographic.{slice_cmp}
use Rattle.std.proofs.lemmas.Cmp.{ranked}
use Rattle.std.proofs.lemmas.Bool.Decides.{nat_tests}
use Rattle.std.proofs.Math.Nat.{pow-le-pow_right, mul-le-mul_right}
use Rattle.asn1_values_natives.specs.Octets.{unsigned_number, signed_number, signed_by, sign_free, plain, is_padded, is_negative, signed_octets_of}
use Rattle.asn1_values_natives.proofs.OctetLaws.{AreOctets, unsigned-lt, unsigned-turned, sign_free-false}
use Rattle.asn1_values_natives.proofs.TwosComplement.{signed-parts, plain-small, plain-large, plain-signed_by, length-complement, octets-complement, written-fewest, signed-back}
use Rattle.asn1_values_natives.proofs.Widths.{signed_octets-plain}
use Rattle.asn1_model.specs.Numbers.{signed_octets}

by_pos : (o : Ordering) (a b : ℕ) → MatchOrdering o (a < b) (a ≡ b) (b < a) → o ≡ int_cmp (pos a) (pos b)
by_pos Less a b h = grind (arith, nat_tests)
by_pos Equal a b h = grind (arith, nat_tests)
by_pos Greater a b h = grind (arith, nat_tests)

by_negsuc : (o : Ordering) (a b : ℕ) → MatchOrdering o (b < a) (a ≡ b) (a < b) → o ≡ int_cmp (negsuc a) (negsuc b)
by_negsuc Less a b h = grind (arith, nat_tests)
by_negsuc Equal a b h = grind (arith, nat_tests)
by_negsuc Greater a b h = grind (arith, nat_tests)

-- one order after another
after : (A B C P Q R : Type 0) (o p : Ordering) → MatchOrdering o A B C → (A → P) → (C → R) → (B → MatchOrdering p P Q R) → MatchOrdering (ordering_then o p) P Q R
after A B C P Q R Less p h f g k = f h
after A B C P Q R Equal p h f g k = k h
after A B C P Q R Greater p h f g k = g h

heads_less : (a b p x y : ℕ) → a < b → x < p → a * p + x < b * p + y
heads_less a b p x y h l = let m : suc a * p ≤ b * p = mul-le-mul_right p h in let e : suc a * p ≡ a * p + p = omega arith in omega arith

tails : (o : Ordering) (a b p x y : ℕ) → a ≡ b → MatchOrdering o (x < y) (x ≡ y) (y < x) → MatchOrdering o (a * p + x < b * p + y) (a * p + x ≡ b * p + y) (b * p + y < a * p + x)
tails Less a b p x y e h = let f : a * p ≡ b * p = ap (λ n. n * p) e in omega arith
tails Equal a b p x y e h = let f : a * p ≡ b * p = ap (λ n. n * p) e in omega arith
tails Greater a b p x y e h = let f : a * p ≡ b * p = ap (λ n. n * p) e in omega arith

-- lists of one length are ordered as their numbers
slices : (ls rs : List ℕ) → AreOctets ls → AreOctets rs → length ls ≡ length rs →
    MatchOrdering (slice_cmp nat_cmp ls rs) (unsigned_number ls < unsigned_number rs) (unsigned_number ls ≡ unsigned_number rs) (unsigned_number rs < unsigned_number ls)
slices [] [] h k e = refl
slices [] (b ∷ rs) h k e = absurd (omega arith)
slices (a ∷ ls) [] h k e = absurd (omega arith)
slices (a ∷ ls) (b ∷ rs) h k e =
    let l : length ls ≡ length rs = omega arith in
    let x : unsigned_number ls < 256 ^ length rs = rw l at (unsigned-lt ls h.1) in
    let y = unsigned-lt rs k.1 in
    rw l
    (after _ _ _ _ _ _ (nat_cmp a b) (slice_cmp nat_cmp ls rs) (ranked a b (nat_cmp a b) refl)
    (λ c. heads_less a b (256 ^ length rs) (unsigned_number ls) (unsigned_number rs) c x)
    (λ c. heads_less b a (256 ^ length rs) (unsigned_number rs) (unsigned_number ls) c y)
    (λ c. tails (slice_cmp nat_cmp ls rs) a b (256 ^ length rs) (unsigned_number ls) (unsigned_number rs) c (slices ls rs h.1 k.1 l)))

-- more octets encode a number of greater magnitude
longer : (ls rs : List ℕ) → AreOctets ls → AreOctets rs → is_padded rs ≡ false → 0 < length ls → length ls < length rs → plain (signed_number ls) < plain (signed_number rs)
longer [] rs h k e n l = absurd (omega arith)
longer (a ∷ ls) [] h k e n l = absurd (omega arith)
longer (a ∷ ls) (b ∷ []) h k e n l = absurd (omega arith)
longer (a ∷ ls) (b ∷ c ∷ rs) h k e n l =
    let p = plain-small a ls h in
    let q = plain-large b c rs k e in
    let r : 256 ^ length ls ≤ 256 ^ length rs = pow-le-pow_right (omega arith) {i = length ls} {j = length rs} (omega arith) in
    omega arith

turned : (o : Ordering) (a b m n p : ℕ) → m + a + 1 ≡ p → n + b + 1 ≡ p → MatchOrdering o (a < b) (a ≡ b) (b < a) → MatchOrdering o (n < m) (m ≡ n) (m < n)
turned Less a b m n p e f h = omega arith
turned Equal a b m n p e f h = omega arith
turned Greater a b m n p e f h = omega arith

-- ---- the four cases

-- octets that are the fewest of their number
pub record AreFewest (os : List ℕ) : Type 0 where
  pub octets : AreOctets os
  pub fewest : is_padded os ≡ false
  pub some : 0 < length os

pub fewest-written : (os : List ℕ) → signed_octets_of (signed_number os) ≡ os → AreFewest os
fewest-written os e = record {
  octets = let P : List ℕ → Type 0 = AreOctets in subst P e (octets-complement (signed_octets (signed_number os)) (signed_number os));
  fewest = ap is_padded (sym e) ∙ written-fewest (signed_number os);
  some = let l : length (signed_octets_of (signed_number os)) ≡ signed_octets (signed_number os) =
      length-complement (signed_octets (signed_number os)) (signed_number os) in let m = ap length e in let p = signed_octets-plain (signed_number os) in omega arith;
}

number_of : (os : List ℕ) (b : Bool) → AreOctets os → b ≡ is_negative os → signed_number os ≡ signed_by b (unsigned_number (map (sign_free b) os))
number_of os b h e = signed-parts os h ∙ ap (λ c. signed_by c (unsigned_number (map (sign_free c) os))) (sym e)

plain_of : (os : List ℕ) (b : Bool) → AreOctets os → b ≡ is_negative os → plain (signed_number os) ≡ unsigned_number (map (sign_free b) os)
plain_of os b h e = ap plain (number_of os b h e) ∙ plain-signed_by b (unsigned_number (map (sign_free b) os))

pub order-less : (ls rs : List ℕ) → AreFewest ls → AreFewest rs → true ≡ is_negative ls → false ≡ is_negative rs → Less ≡ int_cmp (signed_number ls) (signed_number rs)
order-less ls rs h k e f = rw (number_of ls true h.octets e, number_of rs false k.octets f) refl

pub order-greater : (ls rs : List ℕ) → AreFewest ls → AreFewest rs → false ≡ is_negative ls → true ≡ is_negative rs → Greater ≡ int_cmp (signed_number ls) (signed_number rs)
order-greater ls rs h k e f = rw (number_of ls false h.octets e, number_of rs true k.octets f) refl

pub order-positive : (ls rs : List ℕ) → AreFewest ls → AreFewest rs → false ≡ is_negative ls → false ≡ is_negative rs →
    ordering_then (nat_cmp (length ls) (length rs)) (slice_cmp nat_cmp ls rs) ≡ int_cmp (signed_number ls) (signed_number rs)
order-positive ls rs h k e f =
    let p : plain (signed_number ls) ≡ unsigned_number ls = plain_of ls false h.octets e ∙ ap unsigned_number (sign_free-false ls) in
    let q : plain (signed_number rs) ≡ unsigned_number rs = plain_of rs false k.octets f ∙ ap unsigned_number (sign_free-false rs) in
    rw (number_of ls false h.octets e, number_of rs false k.octets f, sign_free-false ls, sign_free-false rs)
    (by_pos (ordering_then (nat_cmp (length ls) (length rs)) (slice_cmp nat_cmp ls rs)) (unsigned_number ls) (unsigned_number rs)
    (after _ _ _ _ _ _ (nat_cmp (length ls) (length rs)) (slice_cmp nat_cmp ls rs) (ranked (length ls) (length rs) (nat_cmp (length ls) (length rs)) refl)
    (λ c. let l = longer ls rs h.octets k.octets k.fewest h.some c in omega arith)
    (λ c. let l = longer rs ls k.octets h.octets h.fewest k.some c in omega arith)
    (slices ls rs h.octets k.octets)))

pub order-negative : (ls rs : List ℕ) → AreFewest ls → AreFewest rs → true ≡ is_negative ls → true ≡ is_negative rs →
    ordering_then (nat_cmp (length rs) (length ls)) (slice_cmp nat_cmp ls rs) ≡ int_cmp (signed_number ls) (signed_number rs)
order-negative ls rs h k e f =
    let p = plain_of ls true h.octets e in
    let q = plain_of rs true k.octets f in
    let s = unsigned-turned ls h.octets in
    let t = unsigned-turned rs k.octets in
    rw (number_of ls true h.octets e, number_of rs true k.octets f)
    (by_negsuc (ordering_then (nat_cmp (length rs) (length ls)) (slice_cmp nat_cmp ls rs)) (unsigned_number (map (sign_free true) ls)) (unsigned_number (map (sign_free true) rs))
    (after _ _ _ _ _ _ (nat_cmp (length rs) (length ls)) (slice_cmp nat_cmp ls rs) (ranked (length rs) (length ls) (nat_cmp (length rs) (length ls)) refl)
    (λ c. let l = longer rs ls k.octets h.octets h.fewest k.some c in omega arith)
    (λ c. let l = longer ls rs h.octets k.octets k.fewest h.some c in omega arith)
    (λ c. turned (slice_cmp nat_cmp ls rs) (unsigned_number ls) (unsigned_number rs) (unsigned_number (map (sign_free true) ls))
    (unsigned_number (map (sign_free true) rs)) (256 ^ length ls) s (t ∙ ap (λ j. 256 ^ j) c) (slices ls rs h.octets k.octets (sym c)))))

-- the number of what is written, written again
pub written-again : (z : ℤ) (os : List ℕ) → os ≡ signed_octets_of z → signed_octets_of (signed_number os) ≡ os
written-again z os e = ap (λ l. signed_octets_of (signed_number l)) e ∙ ap signed_octets_of (signed-back z) ∙ sym e

pub written-number : (z : ℤ) (os : List ℕ) → os ≡ signed_octets_of z → signed_number os ≡ z
written-number z os e = ap signed_number e ∙ signed-back z
