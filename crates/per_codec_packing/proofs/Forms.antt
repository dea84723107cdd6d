-- Field-lists as forms.
use Rattle.std.proofs.Common.{◌≡◌, ℕ, Bool, List, [], ◌∷◌, ◌++◌, Option, Some, None, option_map, refl, ap, sym, ◌∙◌}
use Rattle.asn1_model.specs.Form.{exactly, both, placed}
use Rattle.asn1_model.specs.Per
use Rattle.per_codec_packing.specs.FieldLists.{FieldList, bit, padding, as_field_list, plain, moved, on, field_list_at, as_form}
use Rattle.per_codec_packing.proofs.Formed.{chain_same, behind_nothing, both_assoc}

-- one field-list after another, as forms
pub as_form-append : (a b : FieldList) (q : Option ℕ) → field_list_at (as_form (a ++ b)) q ≡ field_list_at (both (as_form a) (as_form b)) q
unfolding field_list_at
as_form-append [] b q = same (field_list_at (as_form b) q) ∙ ap (λ p. option_map (λ c. c) (field_list_at (as_form b) p)) (behind_nothing q)
  where
    same : (o : Option FieldList) → o ≡ option_map (λ c. c) o
    same None = refl
    same (Some w) = refl
as_form-append (bit c ∷ a) b q = ap (option_map (λ d. bit c ∷ d)) (as_form-append a b (moved q 1)) ∙ sym (both_assoc (exactly (c ∷ [])) (as_form a) (as_form b) q)
as_form-append (padding ∷ a) b q = chain_same (field_list_at (placed (λ p. Per.padding (Per.missing p))) q)
    (λ d. option_map (λ e. d ++ e) (field_list_at (as_form (a ++ b)) (on q d)))
    (λ d. option_map (λ e. d ++ e) (field_list_at (both (as_form a) (as_form b)) (on q d))) (λ d.
    ap (option_map (λ e. d ++ e)) (as_form-append a b (on q d))) ∙ sym (both_assoc (placed (λ p. Per.padding (Per.missing p))) (as_form a) (as_form b) q)

pub form_of_bits : (l : List Bool) (q : Option ℕ) → Some (as_field_list l) ≡ field_list_at (as_form (as_field_list l)) q
unfolding field_list_at
form_of_bits [] q = refl
form_of_bits (b ∷ l) q = ap (option_map (λ t. bit b ∷ t)) (form_of_bits l (moved q 1))

-- if the position is not known, a field-list is unchanged
pub own_field_list : (t : FieldList) → field_list_at (as_form t) None ≡ Some t
unfolding field_list_at
own_field_list [] = refl
own_field_list (bit b ∷ t) = ap (option_map (λ u. bit b ∷ u)) (own_field_list t)
own_field_list (padding ∷ t) = ap (option_map (λ u. padding ∷ u)) (own_field_list t)

-- a field-list without open padding is its bits
pub field_list_of_plain : (t : FieldList) (w : List Bool) → plain t ≡ Some w → t ≡ as_field_list w
field_list_of_plain [] w e = let f : [] ≡ w = cc in ap as_field_list f
field_list_of_plain (bit b ∷ t) w e = go (plain t) e (λ l f. field_list_of_plain t l f)
  where
    go : (o : Option (List Bool)) → option_map (λ l. b ∷ l) o ≡ Some w → ((l : List Bool) → o ≡ Some l → t ≡ as_field_list l) → bit b ∷ t ≡ as_field_list w
    go None f h = cc
    go (Some l) f h = let g : b ∷ l ≡ w = cc in ap (λ u. bit b ∷ u) (h l refl) ∙ ap as_field_list g
field_list_of_plain (padding ∷ t) w e = cc
