-- What is left after a failed allocation.
use Rattle.std.proofs.Common.{◌≡◌, ℕ, ◌++◌, Bool, List, length, length-append, take, arith, sym, ap, ◌∙◌, subst, OnErr}
use Rattle.std.specs.Prelude.{Result, Ok, Err}
use Rattle.std.proofs.lemmas.List.{take_at, take-take}

-- a fact that holds whatever came of it
pub though_refused : {T E P : Type 0} (r : Result T E) → P → OnErr r P
though_refused (Ok x) p = tt
though_refused (Err e) p = p

-- what was added before the failure is cut off again
pub cut_off : {T E : Type 0} (added r : Result T E) (before mid new : List Bool) (n : ℕ) → r ≡ added → OnErr r (new ≡ take n mid) → OnErr added (take n mid ≡ before) → OnErr r (new ≡ before)
cut_off (Ok x) r before mid new n e c m = subst (λ s. OnErr s (new ≡ before)) (sym e) tt
cut_off (Err x) (Err y) before mid new n e c m = c ∙ m
cut_off (Err x) (Ok y) before mid new n e c m = tt

-- .. where the bits that were there begin those that had been reached
pub cut_through : (before reached left : List Bool) (bits : List Bool) (n : ℕ) → n ≡ length before → reached ≡ before ++ bits → take (length reached) left ≡ reached → take n left ≡ before
cut_through before reached left bits n h e p =
    sym (take-take n (length reached) left (omega (arith, h, ap length e, length-append before bits))) ∙ ap (take n) (p ∙ e) ∙ take_at before bits n (sym h)
