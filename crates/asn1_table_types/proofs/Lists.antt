-- Lists with no element.
use Rattle.std.proofs.Common.{◌≡◌, ◌∙◌, refl, sym, ap, suc, ◌==◌, Bool, true, false, ◌&&◌, List, [], ◌∷◌, map, length, arith}
use Rattle.std.proofs.lemmas.Bool.{ne_eqb, eq-eqb, eqb-false}
use lib.Pointwise.{pointwise}
use Rattle.asn1_model.specs.Lawful.{is_empty}

-- a list has no element exactly if its length is zero
pub empty_length : {A : Type 0} (xs : List A) → (length xs == 0) ≡ is_empty xs
empty_length [] = refl
empty_length (x ∷ xs) = ne_eqb (length (x ∷ xs)) 0 (λ e. omega (arith, e))

and_false : (a b : Bool) → b ≡ false → (a && b) ≡ false
and_false true b e = e
and_false false b e = refl

-- lists of two lengths are not the same
pub unequal : {A B : Type 0} (e : B → B → Bool) (f : A → B) (xs ys : List A) → (length xs == length ys) ≡ false → pointwise e (map f xs) (map f ys) ≡ false
unequal e f [] [] h = let z : true ≡ false = sym (eq-eqb 0 0 refl) ∙ h in cc
unequal e f [] (y ∷ ys) h = refl
unequal e f (x ∷ xs) [] h = refl
unequal e f (x ∷ xs) (y ∷ ys) h = and_false (e (f x) (f y)) _ (unequal e f xs ys (ne_eqb (length xs) (length ys) (λ k. eqb-false (length (x ∷ xs)) (length (y ∷ ys)) h (ap suc k))))
