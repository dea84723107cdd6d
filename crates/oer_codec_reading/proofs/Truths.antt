-- Octets that begin with a BOOLEAN or a NULL.
use Rattle.std.proofs.Common.{◌≡◌, ℕ, ◌≤◌, ◌<◌, leb, Bool, true, false, ◌&&◌, IsTrue, ◌⊎◌, inl, inr, List, [], ◌∷◌, refl, sym, ap, ◌∙◌, arith}
use Rattle.std.proofs.lemmas.Bool.{false≢true, le-leb, lt-ltb}
use Rattle.asn1_model.specs.Schema.{boolean, null}
use Rattle.asn1_model.specs.Value.{Value, truth, nothing}
use Rattle.asn1_model.specs.Form.{Reads, exactly, only_if}
use Rattle.asn1_model.specs.Strings.{is_octet}
use Rattle.asn1_model.specs.Oer.{Freedom, form, any_truth}
use Rattle.oer_codec_reading.specs.declared.rules.EncodingRules.{EncodingRules}
use Rattle.oer_codec_reading.specs.Fronts.{freedoms, is_basic, FrontOf, NoneStands}
use Rattle.oer_codec_reading.proofs.Fronts.{exactly_stands, exactly_front, if_stands, if_front, varied_stands, varied_front}
use Rattle.oer_codec_reading.proofs.Freedoms.{any_truth_is_basic, and_true}

-- the octets of a BOOLEAN, if a reader takes any octet but zero for true
abbrev IsTruth : Bool → ℕ → Type 0
IsTruth any o = (o ≡ 0) ⊎ ((o ≡ 255) ⊎ (any ≡ true))

truth_front : (free : Freedom → Bool) (v : Value) (os rest : List ℕ) → FrontOf free boolean v os rest → (o : ℕ) × (o ∷ rest ≡ os) × IsTruth (free any_truth) o
unfolding form Reads
truth_front free (truth false) os rest h = (0, exactly_front free (0 ∷ []) os rest h, inl refl)
truth_front free (truth true) os rest h =
    let v = varied_front free any_truth 255 (λ o. only_if (leb 1 o && is_octet o) (exactly (o ∷ []))) os rest h in
    let i = if_front free (leb 1 v.0 && is_octet v.0) (exactly (v.0 ∷ [])) os rest v.2 in
    (v.0, exactly_front free (v.0 ∷ []) os rest i.1, elim v.1 [ inl e ↦ inr (inl e) | inr t ↦ inr (inr t) ])
truth_front free v os rest h = absurd h.2

pub no_octet : (free : Freedom → Bool) (os : List ℕ) → os ≡ [] → NoneStands free (form boolean) os
no_octet free os e v rest h = let f = truth_front free v os rest h in let g : f.0 ∷ rest ≡ [] = f.1 ∙ e in cc

pub no_truth : (r : EncodingRules) (o : ℕ) (os new : List ℕ) → os ≡ o ∷ new → (o ≡ 0 → ⊥) → (o ≡ 255 → ⊥) → is_basic r ≡ false → NoneStands (freedoms r) (form boolean) os
no_truth r o os new e z f b v rest h =
    let t = truth_front (freedoms r) v os rest h in
    let s : t.0 ≡ o = let u : t.0 ∷ rest ≡ o ∷ new = t.1 ∙ e in cc in
    elim t.2 [ inl g ↦ z (sym s ∙ g) | inr g ↦ elim g [ inl g ↦ f (sym s ∙ g) | inr g ↦ false≢true (sym b ∙ sym (any_truth_is_basic r) ∙ g) ] ]

pub false_stands : (free : Freedom → Bool) (o : ℕ) (os new : List ℕ) → os ≡ o ∷ new → o ≡ 0 → FrontOf free boolean (truth false) os new
unfolding form
false_stands free o os new e z = exactly_stands free (0 ∷ []) os new (ap (λ x. x ∷ new) (sym z) ∙ sym e)

some_truth : (free : Freedom → Bool) (o : ℕ) (os new : List ℕ) → os ≡ o ∷ new → 1 ≤ o → o < 256 → (o ≡ 255) ⊎ IsTrue (free any_truth) → FrontOf free boolean (truth true) os new
unfolding form
some_truth free o os new e l m a =
    varied_stands free any_truth 255 o (λ o. only_if (leb 1 o && is_octet o) (exactly (o ∷ []))) os new a
    (if_stands free (leb 1 o && is_octet o) (exactly (o ∷ [])) os new (and_true _ _ (le-leb 1 o l) (lt-ltb o 256 m)) (exactly_stands free (o ∷ []) os new (sym e)))

pub true_stands : (free : Freedom → Bool) (o : ℕ) (os new : List ℕ) → os ≡ o ∷ new → o ≡ 255 → FrontOf free boolean (truth true) os new
true_stands free o os new e z = some_truth free o os new e (omega arith) (omega arith) (inl z)

pub other_stands : (r : EncodingRules) (o : ℕ) (os new : List ℕ) → os ≡ o ∷ new → (o ≡ 0 → ⊥) → o < 256 → is_basic r ≡ true → FrontOf (freedoms r) boolean (truth true) os new
other_stands r o os new e z m b = some_truth (freedoms r) o os new e (omega arith) m (inr (any_truth_is_basic r ∙ b))

pub truth_stands : (r : EncodingRules) (b : Bool) (o : ℕ) (os new : List ℕ) → os ≡ o ∷ new → o < 256 → (b ≡ true → o ≡ 0 → ⊥) → (b ≡ false → o ≡ 0) →
    (o ≡ 0) ⊎ ((o ≡ 255) ⊎ (is_basic r ≡ true)) → FrontOf (freedoms r) boolean (truth b) os new
truth_stands r false o os new e m y n t = false_stands (freedoms r) o os new e (n refl)
truth_stands r true o os new e m y n (inl z) = absurd (y refl z)
truth_stands r true o os new e m y n (inr (inl f)) = true_stands (freedoms r) o os new e f
truth_stands r true o os new e m y n (inr (inr b)) = other_stands r o os new e (y refl) m b

pub nothing_stands : (free : Freedom → Bool) (os : List ℕ) → FrontOf free null nothing os os
unfolding form
nothing_stands free os = exactly_stands free [] os os refl
