-- Bits as octets, and back.
use Rattle.std.proofs.Common.{◌≡◌, ℕ, zero, suc, ◌*◌, Bool, true, false, cond, ◌&&◌, List, [], ◌∷◌, ◌++◌, length, map, refl, ap, sym, ◌∙◌, arith}
use Rattle.std.proofs.lemmas.Bool.{and_parts}
use Rattle.asn1_model.specs.Value.{same_truth}
use Rattle.asn1_model.specs.Numbers.{binary}
use Rattle.asn1_model.specs.Form.{exactly}
use Rattle.asn1_model.specs.Per
use Rattle.asn1_model.specs.Strings.{is_octet}
use Rattle.std.specs.List.{list_all}
use Rattle.asn1_model.specs.Oer.{packed}
use Rattle.asn1_model.specs.Rules.{octet_bits}
use Rattle.std.specs.Int.Digits.{number_from_digits_after}
use lib.Pointwise.{pointwise}

same_truth-eq : (a b : Bool) → same_truth a b ≡ true → a ≡ b
same_truth-eq true true e = refl
same_truth-eq true false e = cc
same_truth-eq false true e = cc
same_truth-eq false false e = refl

pointwise-eq : (xs ys : List Bool) → pointwise same_truth xs ys ≡ true → xs ≡ ys
pointwise-eq [] [] e = refl
pointwise-eq [] (y ∷ ys) e = cc
pointwise-eq (x ∷ xs) [] e = cc
pointwise-eq (x ∷ xs) (y ∷ ys) e = let p = and_parts _ _ e in let h = same_truth-eq x y p.0 in let t = pointwise-eq xs ys p.1 in cc

-- whether all lists of a length pass a test
abbrev every : ℕ → (List Bool → Bool) → Bool
every zero test = test []
every (suc n) test = every n (λ l. test (true ∷ l)) && every n (λ l. test (false ∷ l))

every_one : (n : ℕ) (test : List Bool → Bool) → every n test ≡ true → (l : List Bool) → length l ≡ n → test l ≡ true
every_one zero test e [] h = e
every_one zero test e (b ∷ l) h = absurd (omega arith)
every_one (suc n) test e [] h = absurd (omega arith)
every_one (suc n) test e (true ∷ l) h = every_one n (λ k. test (true ∷ k)) ((and_parts _ _ e).0) l (omega arith)
every_one (suc n) test e (false ∷ l) h = every_one n (λ k. test (false ∷ k)) ((and_parts _ _ e).1) l (omega arith)

abbrev octet : List Bool → ℕ
octet o = number_from_digits_after 2 0 (map (λ b. cond b 1 0) o)

octets_back : every 8 (λ l. pointwise same_truth (binary 8 (octet l)) l) ≡ true
octets_back = refl

octets_small : every 8 (λ l. is_octet (octet l)) ≡ true
octets_small = refl

octet_back : (l : List Bool) → length l ≡ 8 → binary 8 (octet l) ≡ l
octet_back l h = pointwise-eq _ _ (every_one 8 (λ k. pointwise same_truth (binary 8 (octet k)) k) octets_back l h)

pub packed_back : (k : ℕ) (w : List Bool) → length w ≡ 8 * k → octet_bits (packed w) ≡ w
packed_back zero [] h = refl
packed_back zero (a ∷ w) h = absurd (omega arith)
packed_back (suc k) (a ∷ b ∷ c ∷ d ∷ e ∷ f ∷ g ∷ i ∷ w) h =
    let o : binary 8 (octet (a ∷ b ∷ c ∷ d ∷ e ∷ f ∷ g ∷ i ∷ [])) ≡ a ∷ b ∷ c ∷ d ∷ e ∷ f ∷ g ∷ i ∷ [] = octet_back _ refl in
    let t = packed_back k w (omega arith) in
    ap (λ l. l ++ octet_bits (packed w)) o ∙ ap (λ l. (a ∷ b ∷ c ∷ d ∷ e ∷ f ∷ g ∷ i ∷ []) ++ l) t
packed_back (suc k) w h = absurd (omega arith)

-- the units of whole octets
pub eights_units : (k : ℕ) (w : List Bool) → length w ≡ 8 * k → map (λ o. exactly o) (Per.by_eights w) ≡ Per.octet_units (packed w)
eights_units zero [] h = refl
eights_units zero (a ∷ w) h = absurd (omega arith)
eights_units (suc k) (a ∷ b ∷ c ∷ d ∷ e ∷ f ∷ g ∷ i ∷ w) h =
    let o : binary 8 (octet (a ∷ b ∷ c ∷ d ∷ e ∷ f ∷ g ∷ i ∷ [])) ≡ a ∷ b ∷ c ∷ d ∷ e ∷ f ∷ g ∷ i ∷ [] = octet_back _ refl in
    let t = eights_units k w (omega arith) in
    ap (λ (l : List Bool). exactly l ∷ map (λ o. exactly o) (Per.by_eights w)) (sym o) ∙ ap (λ (l : List Per.BitForm). exactly (binary 8 (octet (a ∷ b ∷ c ∷ d ∷ e ∷ f ∷ g ∷ i ∷ []))) ∷ l) t
eights_units (suc k) w h = absurd (omega arith)

pub packed_octets : (k : ℕ) (w : List Bool) → length w ≡ 8 * k → list_all is_octet (packed w) ≡ true
packed_octets zero [] h = refl
packed_octets zero (a ∷ w) h = absurd (omega arith)
packed_octets (suc k) (a ∷ b ∷ c ∷ d ∷ e ∷ f ∷ g ∷ i ∷ w) h =
    let o : is_octet (octet (a ∷ b ∷ c ∷ d ∷ e ∷ f ∷ g ∷ i ∷ [])) ≡ true = every_one 8 (λ l. is_octet (octet l)) octets_small (a ∷ b ∷ c ∷ d ∷ e ∷ f ∷ g ∷ i ∷ []) refl in
    ap (λ (t : Bool). t && list_all is_octet (packed w)) o ∙ packed_octets k w (omega arith)
packed_octets (suc k) w h = absurd (omega arith)
