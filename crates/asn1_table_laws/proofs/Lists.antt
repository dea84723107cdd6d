-- Lists of records that are kept.
use Rattle.std.proofs.Common.{◌≡◌, ◌∙◌, refl, ap, ℕ, suc, ◌+◌, List, [], ◌∷◌, ◌++◌, drop, length, append_assoc, arith}
use Rattle.std.specs.Prelude.{slice_set as set}

-- two lists, one after another, after others
pub behind : {A : Type 0} (a b c : List A) {k m : List A} → k ≡ a ++ b → m ≡ k ++ c → m ≡ a ++ (b ++ c)
behind a b c e f = f ∙ ap (λ l. l ++ c) e ∙ append_assoc a b c

-- what comes after others is set
pub set_there : {A : Type 0} (xs : List A) (x y : A) (ys : List A) → set (xs ++ (x ∷ ys)) (length xs) y ≡ xs ++ (y ∷ ys)
set_there [] x y ys = refl
set_there (z ∷ xs) x y ys = ap (λ zs. z ∷ zs) (set_there xs x y ys)

-- what comes after others and one more
pub drop_after : {A : Type 0} (xs : List A) (x : A) (ys : List A) → drop (length xs + 1) (xs ++ x ∷ ys) ≡ ys
drop_after [] x ys = refl
drop_after (z ∷ xs) x ys = ap (λ (n : ℕ). drop n (z ∷ (xs ++ x ∷ ys))) (let e : length (z ∷ xs) + 1 ≡ suc (length xs + 1) = omega arith in e) ∙ drop_after xs x ys
