-- Indices among runs of one character.
use Rattle.std.proofs.Common.{◌≡◌, ◌≢◌, ℕ, zero, suc, ◌+◌, ◌-◌, ◌<◌, ◌≤◌, Bool, true, false, cond, List, [], ◌∷◌}
use Rattle.std.proofs.Common.{length, get_or, Option, Some, None, option_map, ◌⊎◌, inl, inr, refl, sym, subst, arith}
use Rattle.std.proofs.Common.{ap}
use Rattle.std.proofs.lemmas.Bool.Decides.{nat_tests}
use Rattle.std.specs.List.Sorted.{IsStrictlyIncreasing}
use Rattle.std.proofs.lemmas.List.Kept.{AllPairs-from_increasing}
use Rattle.asn1_model.specs.Strings.{run, how_many, largest, place_of, is_in_run}
use Rattle.asn1_values_alphabets.specs.Codes.{singles}

le-lt_or_eq : (i n : ℕ) → i ≤ n → (i < n) ⊎ (i ≡ n)
le-lt_or_eq i n h = grind arith

-- each number is below the later ones
pub record Ascends (cs : List ℕ) : Type 0 where
  pub below : (i j : ℕ) → i < j → j < length cs → get_or cs i 0 < get_or cs j 0

tail : (c : ℕ) (cs : List ℕ) → Ascends (c ∷ cs) → Ascends cs
tail c cs a = record { below = λ i j h k. a.below (suc i) (suc j) (omega arith) (omega arith) }

in_own_run : (c : ℕ) → is_in_run c (run c c) ≡ true
in_own_run c = grind (arith, nat_tests)

in_no_other : (x c : ℕ) → x ≢ c → is_in_run x (run c c) ≡ false
in_no_other x c h = grind (arith, nat_tests)

is_own : (x c : ℕ) → is_in_run x (run c c) ≡ true → x ≡ c
is_own x c h = grind (arith, nat_tests)

pub how_many-singles : (cs : List ℕ) → how_many (singles cs) ≡ length cs
how_many-singles [] = refl
how_many-singles (c ∷ cs) = omega (arith, how_many-singles cs)

-- each number is at least its index
pub place-le : (cs : List ℕ) (i : ℕ) → Ascends cs → i < length cs → i ≤ get_or cs i 0
place-le cs zero a h = omega arith
place-le cs (suc i) a h =
    let r : i ≤ get_or cs i 0 = place-le cs i a (omega arith) in
    let b : get_or cs i 0 < get_or cs (suc i) 0 = a.below i (suc i) (omega arith) h in
    omega arith

pub largest-singles : (c : ℕ) (cs : List ℕ) → largest (singles (c ∷ cs)) ≡ get_or (c ∷ cs) (length cs) 0
largest-singles c [] = refl
largest-singles c (d ∷ cs) = largest-singles d cs

pub le-largest : (cs : List ℕ) (i : ℕ) → Ascends cs → i < length cs → get_or cs i 0 ≤ largest (singles cs)
le-largest [] i a h = absurd (omega arith)
le-largest (c ∷ cs) i a h = rw largest-singles (up_to (le-lt_or_eq i (length cs) (omega arith)))
  where
    up_to : (i < length cs) ⊎ (i ≡ length cs) → get_or (c ∷ cs) i 0 ≤ get_or (c ∷ cs) (length cs) 0
    up_to (inl l) = let b = a.below i (length cs) l (omega arith) in omega (arith, b)
    up_to (inr e) = rw e (omega arith)

-- a character of the list has its index
pub place_of-get_or : (cs : List ℕ) (i : ℕ) → Ascends cs → i < length cs → place_of (get_or cs i 0) (singles cs) ≡ Some i
place_of-get_or [] i a h = absurd (omega arith)
place_of-get_or (c ∷ cs) zero a h = rw in_own_run (ap (λ n. Some n) (omega arith))
place_of-get_or (c ∷ cs) (suc i) a h =
    let lower : c < get_or cs i 0 = a.below 0 (suc i) (omega arith) h in
    let other : is_in_run (get_or cs i 0) (run c c) ≡ false = in_no_other (get_or cs i 0) c (omega arith) in
    let r : place_of (get_or cs i 0) (singles cs) ≡ Some i = place_of-get_or cs i (tail c cs a) (omega arith) in
    rw (other, r) (ap (λ n. Some n) (omega arith))

-- other characters have none
pub place_of-none : (cs : List ℕ) (x : ℕ) → ((i : ℕ) → i < length cs → get_or cs i 0 ≢ x) → place_of x (singles cs) ≡ None
place_of-none [] x h = refl
place_of-none (c ∷ cs) x h =
    let other : is_in_run x (run c c) ≡ false = in_no_other x c (λ e. h 0 (omega arith) (sym e)) in
    let r : place_of x (singles cs) ≡ None = place_of-none cs x (λ i k. h (suc i) (omega arith)) in
    rw (other, r) refl

-- an index is one where the character is
pub record StandsAt (cs : List ℕ) (x i : ℕ) : Type 0 where
  pub within : i < length cs
  pub is : get_or cs i 0 ≡ x

pub stands_at : (cs : List ℕ) (x i : ℕ) → place_of x (singles cs) ≡ Some i → StandsAt cs x i
stands_at [] x i e = cc
stands_at (c ∷ cs) x i e = by_test (is_in_run x (run c c)) refl (λ k p. stands_at cs x k p) e
  where
    behind : (o : Option ℕ) → ((k : ℕ) → o ≡ Some k → StandsAt cs x k) → option_map (λ k. c + 1 - c + k) o ≡ Some i → StandsAt (c ∷ cs) x i
    behind None r q = cc
    behind (Some k) r q =
        let s = r k refl in
        let n : c + 1 - c + k ≡ i = cc in
        let m : suc k ≡ i = omega arith in
        subst (λ j. StandsAt (c ∷ cs) x j) m (record { within = omega (arith, s.within); is = s.is })

    by_test : (t : Bool) → is_in_run x (run c c) ≡ t → ((k : ℕ) → place_of x (singles cs) ≡ Some k → StandsAt cs x k) →
        cond t (Some (x - c)) (option_map (λ k. c + 1 - c + k) (place_of x (singles cs))) ≡ Some i → StandsAt (c ∷ cs) x i
    by_test true p r q =
        let s = is_own x c p in
        let n : x - c ≡ i = cc in
        let m : 0 ≡ i = omega arith in
        subst (λ j. StandsAt (c ∷ cs) x j) m (record { within = omega arith; is = sym s })
    by_test false p r q = behind (place_of x (singles cs)) r q

pub ascends : (cs : List ℕ) → IsStrictlyIncreasing cs → Ascends cs
ascends cs h = record { below = λ i j k l. AllPairs-from_increasing cs h i j 0 k l }

pub ascends-le : (cs : List ℕ) → IsStrictlyIncreasing cs → (i j : ℕ) → i ≤ j → j < length cs → get_or cs i 0 ≤ get_or cs j 0
ascends-le cs h i j l k = up_to (le-lt_or_eq i j l)
  where
    up_to : (i < j) ⊎ (i ≡ j) → get_or cs i 0 ≤ get_or cs j 0
    up_to (inl m) = let b = (ascends cs h).below i j m k in omega (arith, b)
    up_to (inr e) = rw e (omega arith)
