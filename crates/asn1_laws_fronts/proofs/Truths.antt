-- Prefixes of BOOLEAN in the octet rules.
use Rattle.std.proofs.Common.{◌≡◌, ℕ, ◌≤◌, Bool, true, false, leb, ◌&&◌, [], ◌∷◌, refl, sym, arith}
use Rattle.std.proofs.lemmas.Bool.{leb-true, and_parts}
use Rattle.asn1_model.specs.Value.{truth}
use Rattle.asn1_model.specs.Schema.{boolean}
use Rattle.asn1_model.specs.Form.{exactly, only_if}
use Rattle.asn1_model.specs.Strings.{is_octet}
use Rattle.asn1_model.specs.Oer
use Rattle.asn1_laws_fronts.proofs.Fronts.{agree_exactly, agree_map, agree_apart, agree_varied, agree_varied_left, agree_varied_right, agree_if, agree_if_left, agree_if_right, agree_first}
use Rattle.asn1_laws_fronts.proofs.OerNumbers.{OctetsAlike}

not_zero : (o : ℕ) → (leb 1 o && is_octet o) ≡ true → 0 ≡ o → ⊥
not_zero o h e = let a : 1 ≤ o = leb-true _ _ ((and_parts _ _ h).0) in omega arith

module _ (free : Oer.Freedom → Bool) where
  abbrev some_truth : ℕ → Oer.OctetForm
  some_truth o = only_if (leb 1 o && is_octet o) (exactly (o ∷ []))

  false_and_true : (p : ℕ) → OctetsAlike free (exactly (0 ∷ [])) (some_truth p) ⊥
  false_and_true p = agree_if_right free (leb 1 p && is_octet p) {x = exactly (0 ∷ [])} {y = exactly (p ∷ [])} (λ h. agree_first free (λ e. absurd (not_zero p h e)))

  true_and_false : (o : ℕ) → OctetsAlike free (some_truth o) (exactly (0 ∷ [])) ⊥
  true_and_false o = agree_if_left free (leb 1 o && is_octet o) {x = exactly (o ∷ [])} {y = exactly (0 ∷ [])} (λ h. agree_first free (λ e. absurd (not_zero o h (sym e))))

  two_truths : (o p : ℕ) → OctetsAlike free (some_truth o) (some_truth p) (truth true ≡ truth true)
  two_truths o p = agree_if free (leb 1 o && is_octet o) (leb 1 p && is_octet p) _ _ (λ h i. agree_map free (λ e. refl) (agree_exactly free (o ∷ []) (p ∷ []) refl))

  pub truths_alike : (a b : Bool) → OctetsAlike free (Oer.form boolean (truth a)) (Oer.form boolean (truth b)) (truth a ≡ truth b)
  unfolding Oer.form
  truths_alike false false = agree_map free (λ e. refl) (agree_exactly free _ _ refl)
  truths_alike true true = agree_varied free {c = Oer.any_truth} {c' = Oer.any_truth} {d = 255} {d' = 255} (λ o p. two_truths o p)
  truths_alike false true = agree_varied_right free (λ p. agree_apart free (false_and_true p))
  truths_alike true false = agree_varied_left free (λ o. agree_apart free (true_and_false o))
