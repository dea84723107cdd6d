-- The forms of types, one after another.
use Rattle.std.proofs.Common.{◌≡◌, ◌++◌, ◌∷◌, [], ℕ, zero, suc, length, List, Option, Some, IfSome, slice_get, ap, refl, subst, ◌∙◌}
use Rattle.asn1_schema_forms.specs.Forms.{form_bounds}
use Rattle.asn1_schema_forms.specs.declared.number.NumberForm.{NumberForm}
use Rattle.asn1_table_nodes.specs.declared.nodes.TypeNode.{TypeNode}
use Rattle.asn1_table_types.specs.Forms.{AreForms, bounds_there}

-- What holds at each index of a list holds at each index of the list and one more.
all_pushed : {X : Type 0} (R : ℕ → X → Type 0) (xs : List X) (y : X) → ((i : ℕ) (x : X) → slice_get xs i ≡ Some x → R i x)
    → R (length xs) y → (i : ℕ) (x : X) → slice_get (xs ++ y ∷ []) i ≡ Some x → R i x
all_pushed R [] y all last zero x e =
    let q : y ≡ x = cc in
    subst (λ z. R zero z) q last
all_pushed R [] y all last (suc i) x e = cc
all_pushed R (w ∷ xs) y all last zero x e = all zero x e
all_pushed R (w ∷ xs) y all last (suc i) x e = all_pushed (λ j. R (suc j)) xs y (λ j. all (suc j)) last i x e

told : (ns : List TypeNode) (fs : List (Option NumberForm)) → AreForms ns fs → (i : ℕ) (y : Option NumberForm)
    → slice_get fs i ≡ Some y → (f : NumberForm) → y ≡ Some f → bounds_there (slice_get ns i) ≡ Some (form_bounds f)
told ns fs all i y e f q = all i f (e ∙ ap Some q)

of_form : (ns : List TypeNode) (fs : List (Option NumberForm)) (o : Option NumberForm)
    → IfSome o (λ f. bounds_there (slice_get ns (length fs)) ≡ Some (form_bounds f))
    → (f : NumberForm) → o ≡ Some f → bounds_there (slice_get ns (length fs)) ≡ Some (form_bounds f)
of_form ns fs o last f q = subst (λ x. IfSome x (λ f. bounds_there (slice_get ns (length fs)) ≡ Some (form_bounds f))) q last

-- One more form is that of the type behind.
pub are_forms_pushed : (ns : List TypeNode) (fs : List (Option NumberForm)) (o : Option NumberForm) → AreForms ns fs
    → IfSome o (λ f. bounds_there (slice_get ns (length fs)) ≡ Some (form_bounds f)) → AreForms ns (fs ++ o ∷ [])
are_forms_pushed ns fs o all last = λ i f e. all_pushed (λ j y. (g : NumberForm) → y ≡ Some g
    → bounds_there (slice_get ns j) ≡ Some (form_bounds g)) fs o (told ns fs all) (of_form ns fs o last) i (Some f) e f
    refl
