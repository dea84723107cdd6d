-- The lowest 128 bits of octets.
use Rattle.std.proofs.Common.{◌≡◌, ℕ, zero, suc, ◌+◌, ◌-◌, ◌*◌, ◌%◌, ◌^◌, ◌<◌, ◌≤◌, Bool, true, false, List, [], ◌∷◌, length, map, drop, get_or, Fits, w8, refl, ap, sym, ◌∙◌, arith, ◌⊎◌, inl, inr}
use Rattle.std.proofs.lemmas.Bool.{cases_lt}
use Rattle.std.proofs.lemmas.Nat.{pow-add}
use Rattle.std.proofs.Math.Nat.{add-mul-mod_self_right, mod-eq_of_lt, pow-le-pow_right}
use Rattle.asn1_values_natives.specs.Octets.{unsigned_number, signed_number, signed_by, sign_free, is_negative}
use Rattle.asn1_values_natives.specs.Ranges.{remainder}
use Rattle.asn1_values_integers.specs.Kinds.{AreFewest}
use Rattle.asn1_values_natives.proofs.OctetLaws.{AreOctets, unsigned-lt, unsigned-turned, octets-sign_free, length-sign_free, sign_free-false}
use Rattle.asn1_values_natives.proofs.TwosComplement.{signed-parts, octets-all, plain-small}

octets-drop : (k : ℕ) (os : List ℕ) → AreOctets os → AreOctets (drop k os)
octets-drop zero os h = h
octets-drop (suc k) [] h = h
octets-drop (suc k) (o ∷ os) h = octets-drop k os h.1

drop-turned : (b : Bool) (k : ℕ) (os : List ℕ) → drop k (map (sign_free b) os) ≡ map (sign_free b) (drop k os)
drop-turned b zero os = refl
drop-turned b (suc k) [] = refl
drop-turned b (suc k) (o ∷ os) = drop-turned b k os

low : (k : ℕ) (os : List ℕ) → AreOctets os → length os ≡ k + 16 → unsigned_number os % 256 ^ 16 ≡ unsigned_number (drop k os)
low zero os h l = let p : unsigned_number os < 256 ^ length os = unsigned-lt os h in let e : length os ≡ 16 = omega arith in mod-eq_of_lt (rw e at p)
low (suc k) [] h l = absurd (omega arith)
low (suc k) (o ∷ os) h l =
    let m : length os ≡ k + 16 = omega arith in
    let p : 256 ^ length os ≡ 256 ^ k * 256 ^ 16 = ap (λ n. 256 ^ n) m ∙ pow-add 256 k 16 in
    let s : o * 256 ^ length os + unsigned_number os ≡ unsigned_number os + o * 256 ^ k * 256 ^ 16 = ap (λ x. o * x + unsigned_number os) p ∙ omega arith in
    ap (λ x. x % 256 ^ 16) s ∙ add-mul-mod_self_right (unsigned_number os) (o * 256 ^ k) (256 ^ 16) ∙ low k os h.1 m

length-low : (k : ℕ) (os : List ℕ) → length os ≡ k + 16 → length (drop k os) ≡ 16
length-low zero os l = omega arith
length-low (suc k) [] l = absurd (omega arith)
length-low (suc k) (o ∷ os) l = length-low k os (omega arith)

by_sign : (b : Bool) (k : ℕ) (os : List ℕ) → AreOctets os → length os ≡ k + 16 → remainder (signed_by b (unsigned_number (map (sign_free b) os))) (2 ^ 128) ≡ unsigned_number (drop k os)
by_sign false k os h l = ap (λ x. unsigned_number x % 2 ^ 128) (sign_free-false os) ∙ low k os h l
by_sign true k os h l =
    let t : unsigned_number (map (sign_free true) os) % 256 ^ 16 ≡ unsigned_number (map (sign_free true) (drop k os)) =
    low k (map (sign_free true) os) (octets-sign_free true os h) (length-sign_free true os ∙ l) ∙ ap unsigned_number (drop-turned true k os) in
    let u = unsigned-turned (drop k os) (octets-drop k os h) in
    let v : unsigned_number (map (sign_free true) (drop k os)) + unsigned_number (drop k os) + 1 ≡ 256 ^ 16 = u ∙ ap (λ n. 256 ^ n) (length-low k os l) in
    ap (λ x. 2 ^ 128 - 1 - x) t ∙ omega arith

pub low-bits : (os : List ℕ) (n : ℕ) → ((i : ℕ) → Fits w8 (get_or os i 0)) → 16 < length os →
    n ≡ unsigned_number (map (sign_free false) (drop (length os - 16) os)) → n ≡ remainder (signed_number os) (2 ^ 128)
low-bits os n h l e =
    let a = octets-all os h in
    e ∙ ap unsigned_number (sign_free-false (drop (length os - 16) os))
    ∙ sym (by_sign (is_negative os) (length os - 16) os a (omega arith))
    ∙ ap (λ z. remainder z (2 ^ 128)) (sym (signed-parts os a))

pub kept-many : (least : ℕ) (os : List ℕ) → 2 ^ 127 ≤ least → AreFewest least os → 16 < length os
kept-many least [] l h = let p = h.large in absurd (omega arith)
kept-many least (o ∷ os) l h = at_cases (cases_lt (length os) 16)
  where
    at_cases : (length os < 16) ⊎ (16 ≤ length os) → 16 < length (o ∷ os)
    at_cases (inr c) = omega arith
    at_cases (inl c) =
        let p = h.large in
        let q = plain-small o os h.octets in
        let r : 256 ^ length os ≤ 256 ^ 15 = pow-le-pow_right (omega arith) {i = length os} {j = 15} (omega arith) in
        absurd (omega arith)
