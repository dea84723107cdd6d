-- The due elements of the innermost list, as a number outside the frames.
use Rattle.std.proofs.Common.{◌≡◌, ℕ, zero, suc, ◌-◌, ◌<◌, true, List, ◌∷◌, refl, ap, sym, ◌∙◌, subst, arith}
use Rattle.oer_codec_laws.specs.Takes.{Scope, State, members, NextMember}
use Rattle.oer_codec_decoder.specs.Scopes.{with_due}

-- a list whose frame has no due element
pub list_with_due : (n : ℕ) (s k : List Scope) → s ≡ members 0 ∷ k → with_due n s ≡ members n ∷ k
list_with_due zero s k e = e
list_with_due (suc n) s k e = ap (with_due (suc n)) e

pub none_with_due : (n : ℕ) (s : List Scope) → n ≡ 0 → with_due n s ≡ s
none_with_due zero s e = refl
none_with_due (suc n) s e = cc e

-- a due element comes
pub due_comes : (n m : ℕ) (old s k : List Scope) (os : List ℕ) → with_due n s ≡ old → s ≡ members 0 ∷ k → 0 < n → m ≡ n - 1 → NextMember true os old (os, with_due m s)
due_comes zero m old s k os a b l d = absurd (omega (arith, l))
due_comes (suc n) m old s k os a b l d =
    let same : m ≡ n = omega (arith, d) in
    let new : with_due m s ≡ members n ∷ k = ap (λ j. with_due j s) same ∙ list_with_due n s k b in
    subst (λ t. NextMember true os t (os, with_due m s)) (sym (list_with_due (suc n) s k b) ∙ a) (refl, ap (λ (t : List Scope). let z : State = (os, t) in z) new)
