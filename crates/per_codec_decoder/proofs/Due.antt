-- Extension additions that are still to come when their SEQUENCE ends.
use Rattle.std.proofs.Common.{◌≡◌, ℕ, zero, suc, ◌<◌, ◌≤◌, Bool, List, [], ◌∷◌, drop, refl, sym, subst, arith}
use Rattle.asn1_model.specs.Per
use Rattle.asn1_schema_reading_laws.specs.PresenceBits.{first_bits}
use Rattle.per_codec_laws.specs.Takes.{Position, Scope, State, added, Skips, Ends}
use Rattle.per_codec_laws.proofs.Fronts.{nothing_front}

module _ (al : Bool) (free : Per.Freedom → Bool) (a : Position) (b : State) where
  due_ends : (n : ℕ) (bs us : List Bool) (k : List Scope) → 0 < n → Ends al free a (added (first_bits n bs) us ∷ k) b → ⊥
  due_ends zero bs us k l t = absurd (omega (arith, l))
  due_ends (suc n) [] us k l t = t
  due_ends (suc n) (v ∷ bs) us k l t = t

pub no_end_due : (n : ℕ) (bs us : List Bool) (s k : List Scope) → 0 < n → s ≡ added (first_bits n bs) us ∷ k →
    (al : Bool) (free : Per.Freedom → Bool) (a : Position) (b : State) → Ends al free a s b → ⊥
no_end_due n bs us s k l e al free a b t = due_ends al free a b n bs us k l (subst (λ (x : List Scope). Ends al free a x b) e t)

none_due : (al : Bool) (free : Per.Freedom → Bool) (a : Position) (n : ℕ) (bs : List Bool) (k : List Scope) → n ≤ 0 → bs ≡ [] → Ends al free a (added (first_bits n bs) (drop n bs) ∷ k) (a, k)
none_due al free a zero bs k l e = (subst (λ us. Skips al free us a a) (sym e) ([], refl, nothing_front free a), refl)
none_due al free a (suc n) bs k l e = absurd (omega (arith, l))

-- no additions are left, and no unknown ones
pub all_passed : (n : ℕ) (bs : List Bool) (s k : List Scope) → n ≤ 0 → bs ≡ [] → s ≡ added (first_bits n bs) (drop n bs) ∷ k →
    (al : Bool) (free : Per.Freedom → Bool) (a : Position) → Ends al free a s (a, k)
all_passed n bs s k l e h al free a = subst (λ (x : List Scope). Ends al free a x (a, k)) (sym h) (none_due al free a n bs k l e)
