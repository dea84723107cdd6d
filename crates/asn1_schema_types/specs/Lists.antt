-- Equality of NULL and of lists, and equality of the values they represent.
use Rattle.std.specs.Prelude.{◌≡◌, refl, Bool, true, List, [], ◌∷◌}
use lib.Pointwise.{pointwise}
use Rattle.asn1_model.specs.Value.{Value, nothing, members, same, same_members}
use Rattle.asn1_schema_laws.specs.Parts.{values_of}

-- There is one value of NULL.
pub nothing_agrees : true ≡ same nothing nothing
unfolding same
nothing_agrees = refl

members_agree : {A : Type 0} (e : A → A → Bool) (f : A → Value) → ((x y : A) → e x y ≡ same (f x) (f y))
    → (xs ys : List A) → pointwise e xs ys ≡ same_members (values_of f xs) (values_of f ys)
unfolding same_members
members_agree e f h [] [] = refl
members_agree e f h [] (y ∷ ys) = refl
members_agree e f h (x ∷ xs) [] = refl
members_agree e f h (x ∷ xs) (y ∷ ys) = rw (h x y, members_agree e f h xs ys) refl

-- Lists are equal element by element exactly if the values they represent are.
pub lists_agree : {A : Type 0} (e : A → A → Bool) (f : A → Value) → ((x y : A) → e x y ≡ same (f x) (f y))
    → (xs ys : List A) → pointwise e xs ys ≡ same (members (values_of f xs)) (members (values_of f ys))
unfolding same
lists_agree e f h xs ys = members_agree e f h xs ys
