-- Field-lists that are added in sequence.
use Rattle.std.proofs.Common.{◌≡◌, ℕ, ◌==◌, Bool, true, false, cond, List, ◌∷◌, ◌++◌, length, replicate, Option, Some}
use Rattle.std.proofs.Common.{None, option_map, option_and_then, refl, ap, subst, sym, ◌∙◌, append_assoc, length-append}
use Rattle.std.proofs.Common.{eq-eqb}
use Rattle.std.proofs.lemmas.List.{length-replicate}
use Rattle.asn1_model.specs.Numbers.{missing}
use Rattle.asn1_model.specs.Form.{exactly, only_if, both, placed}
use Rattle.asn1_model.specs.Per
use Rattle.per_codec_packing.specs.FieldLists.{FieldList, padding, as_field_list, on, field_list_at, as_form}
use Rattle.per_codec_packing.proofs.Forms.{as_form-append, form_of_bits}
use Rattle.per_codec_packing.specs.Packed.{Packed, Adds, place, plus, padding_at}

pub adds_field_list : (o : Option FieldList) (w : FieldList) (old new : Packed) → o ≡ Some w → new ≡ plus old w → Adds o old new
adds_field_list o w old new e h = ap (option_map (λ x. plus old x)) e ∙ ap Some (sym h)

pub adds_same : (x y : Option FieldList) (old new : Packed) → x ≡ y → Adds y old new → Adds x old new
adds_same x y old new e a = subst (λ z. Adds z old new) (sym e) a

pub added : (o : Option FieldList) (old new : Packed) → Adds o old new → (w : FieldList) × (o ≡ Some w) × (plus old w ≡ new)
added None old new a = cc
added (Some w) old new a = (w, refl, cc)

-- ---- one field-list after another

pub plus_both : (p : Packed) (a b : FieldList) → plus (plus p a) b ≡ plus p (a ++ b)
plus_both p a b = ap (λ t. let q : Packed = record { field_list = t; placed = p.placed } in q) (append_assoc p.field_list a b)

-- the position after what is added
pub place_plus : (p : Packed) (w : FieldList) → place (plus p w) ≡ on (place p) w
place_plus p w = go p.placed
  where
    go : (b : Bool) → cond b (Some (length (p.field_list ++ w))) None ≡ on (cond b (Some (length p.field_list)) None) w
    go false = refl
    go true = ap Some (length-append p.field_list w)

pub behind : (old mid : Packed) (w : FieldList) → plus old w ≡ mid → place mid ≡ on (place old) w
behind old mid w e = ap (λ p. place p) (sym e) ∙ place_plus old w

pub both_field_list : (x y : Per.BitForm) (q : Option ℕ) (a b : FieldList) → field_list_at x q ≡ Some a → field_list_at y (on q a) ≡ Some b → field_list_at (both x y) q ≡ Some (a ++ b)
unfolding field_list_at
both_field_list x y q a b e f = ap (λ o. option_and_then (λ c. option_map (λ d. c ++ d) (field_list_at y (on q c))) o) e ∙ ap (option_map (λ d. a ++ d)) f

pub adds_both : (x y : Per.BitForm) (old mid new : Packed) → Adds (field_list_at x (place old)) old mid → Adds (field_list_at y (place mid)) mid new →
    Adds (field_list_at (both x y) (place old)) old new
adds_both x y old mid new a b =
    let p = added (field_list_at x (place old)) old mid a in
    let q = added (field_list_at y (place mid)) mid new b in
    adds_field_list _ (p.0 ++ q.0) old new
    (both_field_list x y (place old) p.0 q.0 p.1 (ap (λ k. field_list_at y k) (sym (behind old mid p.0 p.2)) ∙ q.1))
    (sym q.2 ∙ ap (λ l. plus l q.0) (sym p.2) ∙ plus_both old p.0 q.0)

-- if the first has no field-list, both together have none
pub none_first : (x y : Per.BitForm) (q : Option ℕ) → field_list_at x q ≡ None → field_list_at (both x y) q ≡ None
unfolding field_list_at
none_first x y q e = ap (λ o. option_and_then (λ c. option_map (λ d. c ++ d) (field_list_at y (on q c))) o) e

-- .. and so if the second has none
pub none_second : (x y : Per.BitForm) (old mid : Packed) → Adds (field_list_at x (place old)) old mid → field_list_at y (place mid) ≡ None → field_list_at (both x y) (place old) ≡ None
unfolding field_list_at
none_second x y old mid a e =
    let p = added (field_list_at x (place old)) old mid a in
    ap (λ o. option_and_then (λ c. option_map (λ d. c ++ d) (field_list_at y (on (place old) c))) o) p.1
    ∙ ap (option_map (λ d. p.0 ++ d)) (ap (λ k. field_list_at y k) (sym (behind old mid p.0 p.2)) ∙ e)

-- ---- bits, and padding

pub adds_bits : (l : List Bool) (old new : Packed) → new ≡ plus old (as_field_list l) → Adds (field_list_at (exactly l) (place old)) old new
unfolding field_list_at
adds_bits l old new e = adds_field_list _ (as_field_list l) old new refl e

pub padding_field_list : (q : Option ℕ) → field_list_at (placed (λ p. Per.padding (missing p))) q ≡ Some (padding_at q)
unfolding field_list_at Per.padding
padding_field_list None = refl
padding_field_list (Some p) = go (length (replicate (missing p) false) == missing p) (eq-eqb _ _ (length-replicate (missing p) false))
  where
    go : (b : Bool) → b ≡ true → field_list_at (only_if b (exactly (replicate (missing p) false))) (Some p) ≡ Some (as_field_list (replicate (missing p) false))
    go true e = refl
    go false e = cc

pub adds_padding : (old new : Packed) → new ≡ plus old (padding_at (place old)) → Adds (field_list_at (placed (λ p. Per.padding (missing p))) (place old)) old new
adds_padding old new e = adds_field_list _ (padding_at (place old)) old new (padding_field_list (place old)) e

-- ---- field-lists as forms

pub adds_form_bits : (l : List Bool) (old new : Packed) → new ≡ plus old (as_field_list l) → Adds (field_list_at (as_form (as_field_list l)) (place old)) old new
adds_form_bits l old new e = adds_field_list _ (as_field_list l) old new (sym (form_of_bits l (place old))) e

pub adds_forms : (a b : FieldList) (old mid new : Packed) → Adds (field_list_at (as_form a) (place old)) old mid →
    Adds (field_list_at (as_form b) (place mid)) mid new → Adds (field_list_at (as_form (a ++ b)) (place old)) old new
adds_forms a b old mid new h k = adds_same _ _ old new (as_form-append a b (place old)) (adds_both (as_form a) (as_form b) old mid new h k)

pub adds_form_padding : (t : FieldList) (old mid new : Packed) → mid ≡ plus old (padding_at (place old)) →
    Adds (field_list_at (as_form t) (place mid)) mid new → Adds (field_list_at (as_form (padding ∷ t)) (place old)) old new
adds_form_padding t old mid new e a = adds_both (placed (λ p. Per.padding (missing p))) (as_form t) old mid new (adds_padding old mid e) a
