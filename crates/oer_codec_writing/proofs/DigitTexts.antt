-- The low octets of numbers, and the texts of numbers after their number of octets.
use Rattle.std.proofs.Common.{◌≡◌, ℕ, zero, suc, ◌+◌, ◌-◌, ◌*◌, ◌/◌, ◌%◌, ◌^◌, ◌<◌, ◌≤◌, ℤ, pos, negsuc, Bool, List, []}
use Rattle.std.proofs.Common.{◌∷◌, ◌++◌, length, take, drop, Some, of_z, FitsSigned, refl, ap, subst, sym, ◌∙◌}
use Rattle.std.proofs.Common.{append_assoc, arith}
use Rattle.std.specs.Int.{w128, bytes_high_first}
use Rattle.std.proofs.lemmas.Nat.{pow-add}
use Rattle.asn1_model.specs.Form.{written}
use Rattle.asn1_model.specs.Numbers.{digits, complement, width, signed_octets}
use Rattle.asn1_model.specs.Oer
use Rattle.asn1_values_natives.specs.Octets.{unsigned_number, plain, signed_by}
use Rattle.asn1_values_natives.proofs.Widths.{signed_octets-plain, signed_octets-le}
use Rattle.asn1_values_natives.proofs.TwosComplement.{plain-signed_by}
use Rattle.asn1_values_natives.proofs.OctetLaws.{length-digits, octets-digits, unsigned-digits, unsigned-digits_mod, digits-unsigned, digits-unsigned_behind, pow_pos256}
use Rattle.oer_codec_writing.specs.Writing.{Adds}
use Rattle.oer_codec_writing.proofs.LengthTexts.{counted_text, digits_octets, short_length, adds_text}

-- ---- the low octets

pub bytes_are_digits : (k n : ℕ) → bytes_high_first k n ≡ digits 256 k n
bytes_are_digits zero n = refl
bytes_are_digits (suc zero) n = let e : n % 256 ≡ n / 256 ^ 0 % 256 = omega arith in ap (λ d. d ∷ []) e
bytes_are_digits (suc (suc k)) n = ap (λ l. n / 256 ^ suc k % 256 ∷ l) (bytes_are_digits (suc k) n)

pub low_digits : (k n : ℕ) → digits 256 k (n % 256 ^ k) ≡ digits 256 k n
low_digits k n =
    let d : List ℕ = digits 256 k n in
    sym (ap (λ x. digits 256 k x) (unsigned-digits_mod k n)) ∙ sym (ap (λ j. digits 256 j (unsigned_number d)) (length-digits k n)) ∙ digits-unsigned d (octets-digits k n)

pub last_digits : (j k n : ℕ) → drop j (digits 256 (j + k) n) ≡ digits 256 k n
last_digits zero k n = let e : 0 + k ≡ k = omega arith in ap (λ m. digits 256 m n) e
last_digits (suc j) k n = let e : suc j + k ≡ suc (j + k) = omega arith in ap (λ m. drop (suc j) (digits 256 m n)) e ∙ last_digits j k n

pub take_all : {X : Type 0} (xs : List X) → take (length xs) xs ≡ xs
take_all [] = refl
take_all (x ∷ xs) = ap (λ l. x ∷ l) (take_all xs)

-- ---- numbers of 128 bits

times_less : (p q : ℕ) → 0 < q → (q - 1) * p + p ≡ p * q
times_less p zero h = absurd (omega arith)
times_less p (suc q) h = let e : suc q - 1 ≡ q = omega arith in ap (λ k. k * p + p) e ∙ grind arith

pub complement_digits : (k : ℕ) (z : ℤ) → k ≤ 16 → plain z < 256 ^ k → digits 256 k (of_z w128 z) ≡ complement k z
complement_digits k (pos m) h l = refl
complement_digits k (negsuc m) h l =
    let p : ℕ = 256 ^ k in
    let q : ℕ = 256 ^ (16 - k) in
    let os : List ℕ = digits 256 k (p - 1 - m) in
    let whole : p * q ≡ 2 ^ 128 = sym (pow-add 256 k (16 - k)) ∙ (let e : k + (16 - k) ≡ 16 = omega arith in ap (λ j. 256 ^ j) e) in
    let long : length os ≡ k = length-digits k (p - 1 - m) in
    let value : unsigned_number os ≡ p - 1 - m = unsigned-digits k (p - 1 - m) (omega arith) in
    let less : (q - 1) * p + p ≡ p * q = times_less p q (pow_pos256 (16 - k)) in
    let same : 2 ^ 128 - suc m ≡ (q - 1) * p + (p - 1 - m) = omega (arith, whole, less, l) in
    ap (λ n. digits 256 k n) (same ∙ ap (λ n. (q - 1) * p + n) (sym value))
    ∙ subst (λ j. digits 256 j ((q - 1) * 256 ^ j + unsigned_number os) ≡ os) long (digits-unsigned_behind (q - 1) os (octets-digits k (p - 1 - m)))

pub plain_held : (z : ℤ) → FitsSigned w128 z → plain z < 2 ^ 127
plain_held (pos m) h = let l = h.sfits in omega (arith, l)
plain_held (negsuc m) h = let l = h.sfits in omega (arith, l)

pub few_held : (z : ℤ) → FitsSigned w128 z → signed_octets z ≤ 16
few_held z h = signed_octets-le z 15 (plain_held z h)

pub few_signed : (z : ℤ) (b : Bool) (m n : ℕ) → FitsSigned w128 z → signed_by b m ≡ z → n ≡ width m → n / 8 + 1 ≤ 16
few_signed z b m n h e w =
    let l = few_held z h in
    let p : plain z ≡ m = sym (ap plain e) ∙ plain-signed_by b m in
    omega (arith, l, signed_octets-plain z, ap width p, w)

-- ---- after the number of octets

pub counted_digits : (k n : ℕ) → k < 128 → written (Oer.counted (digits 256 k n)) 0 ≡ Some (k ∷ digits 256 k n)
counted_digits k n h = counted_text (digits 256 k n) (k ∷ []) (digits_octets k n) (ap (λ j. written (Oer.length_form j) 0) (length-digits k n) ∙ short_length k h)

pub adds_counted_digits : (k n : ℕ) (old mid new : List ℕ) → k ≤ 16 → mid ≡ old ++ k ∷ [] → new ≡ mid ++ digits 256 k n → Adds (written (Oer.counted (digits 256 k n)) 0) old new
adds_counted_digits k n old mid new h a b = adds_text _ (k ∷ digits 256 k n) old new (counted_digits k n (omega arith))
    (b ∙ ap (λ l. l ++ digits 256 k n) a ∙ append_assoc old (k ∷ []) (digits 256 k n))
