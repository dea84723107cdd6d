-- Prefixes of tags of the octet rules.
use Rattle.std.proofs.Common.{◌≡◌, ℕ, ◌+◌, ◌*◌, ◌<◌, ltb, leb, Bool, true, false, cond, [], ◌∷◌, sym, arith}
use Rattle.std.proofs.lemmas.Bool.{ltb-true, eq-eqb, and_from}
use Rattle.asn1_model.specs.Schema.{Tag}
use Rattle.asn1_model.specs.Lawful.{tag_same}
use Rattle.asn1_model.specs.Form.{exactly, only_if}
use Rattle.asn1_model.specs.Oer
use Rattle.asn1_laws_fronts.proofs.Fronts.{agree_map, agree_varied, agree_if, agree_first, agree_nothing, agree_code}
use Rattle.asn1_laws_fronts.proofs.OerNumbers.{OctetsAlike}
use Rattle.asn1_laws_fronts.proofs.Sevens.{groups_fronts}

low_tags : (c d n m : ℕ) → n < 63 → m < 63 → c * 64 + n ≡ d * 64 + m → (c ≡ d) × (n ≡ m)
low_tags c d n m h i e = (omega arith, omega arith)

low_and_high : (c d n : ℕ) → n < 63 → c * 64 + n ≡ d * 64 + 63 → ⊥
low_and_high c d n h e = omega arith

high_tags : (c d : ℕ) → c * 64 + 63 ≡ d * 64 + 63 → c ≡ d
high_tags c d e = omega arith

same_tag : (t u : Tag) → t.class ≡ u.class → t.number ≡ u.number → tag_same t u ≡ true
same_tag t u e f = and_from _ _ (eq-eqb _ _ e) (eq-eqb _ _ f)

module _ (free : Oer.Freedom → Bool) where
  abbrev low_tag : Tag → Oer.OctetForm
  low_tag t = only_if (ltb t.number 63) (exactly ((t.class * 64 + t.number) ∷ []))

  low_low : (t u : Tag) → OctetsAlike free (low_tag t) (low_tag u) (tag_same t u ≡ true)
  low_low t u = agree_if free (ltb t.number 63) (ltb u.number 63) _ _
      (λ h i. agree_first free (λ e. agree_map free (λ x. let q = low_tags t.class u.class t.number u.number (ltb-true _ _ h) (ltb-true _ _ i) e in same_tag t u q.0 q.1) (agree_nothing free)))

  low_high : (t u : Tag) → OctetsAlike free (low_tag t) (Oer.long_tag_octets u) (tag_same t u ≡ true)
  low_high t u = agree_if free (ltb t.number 63) (leb 1 u.number) _ _ (λ h i. agree_first free (λ e. absurd (low_and_high t.class u.class t.number (ltb-true _ _ h) e)))

  high_low : (t u : Tag) → OctetsAlike free (Oer.long_tag_octets t) (low_tag u) (tag_same t u ≡ true)
  high_low t u = agree_if free (leb 1 t.number) (ltb u.number 63) _ _ (λ h i. agree_first free (λ e. absurd (low_and_high u.class t.class u.number (ltb-true _ _ i) (sym e))))

  high_high : (t u : Tag) → OctetsAlike free (Oer.long_tag_octets t) (Oer.long_tag_octets u) (tag_same t u ≡ true)
  high_high t u = agree_if free (leb 1 t.number) (leb 1 u.number) _ _
      (λ h i. agree_first free (λ e. agree_map free (λ f. same_tag t u (high_tags t.class u.class e) f) (agree_code free (λ r s f. groups_fronts t.number u.number r s f))))

  tag_cases : (t u : Tag) (a b : Bool) → OctetsAlike free (cond a (Oer.long_tag_octets t) (low_tag t)) (cond b (Oer.long_tag_octets u) (low_tag u)) (tag_same t u ≡ true)
  tag_cases t u true true = high_high t u
  tag_cases t u true false = high_low t u
  tag_cases t u false true = low_high t u
  tag_cases t u false false = low_low t u

  pub tags_alike : (t u : Tag) → OctetsAlike free (Oer.tag_form t) (Oer.tag_form u) (tag_same t u ≡ true)
  unfolding Oer.tag_form
  tags_alike t u = agree_varied free {c = Oer.long_tag} {c' = Oer.long_tag} (λ a b. tag_cases t u a b)
