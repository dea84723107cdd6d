-- Codes of characters that ascend.
use Rattle.std.proofs.Common.{◌≡◌, ◌≢◌, ℕ, suc, ◌-◌, ◌*◌, ◌%◌, ◌^◌, ◌<◌, ◌≤◌, Bool, true, false, cond, ltb, List, []}
use Rattle.std.proofs.Common.{◌∷◌, length, get_or, Option, Some, None, option_map, ◌⊎◌, inl, inr, refl, sym, subst, ◌∙◌}
use Rattle.std.proofs.Common.{arith, lit<, ap}
use Rattle.std.proofs.lemmas.Bool.{ltb-true}
use Rattle.std.specs.Prelude.{Result, Ok, Err, MatchResult}
use Rattle.std.specs.Result.{result_ok}
use Rattle.asn1_model.specs.Numbers.{width}
use Rattle.asn1_model.specs.Strings.{how_many, largest, place_of}
use Rattle.asn1_values_alphabets.specs.Codes.{CodedCharacters, singles, code_of}
use Rattle.asn1_values_alphabets.proofs.Widths.{lt-pow-width, width-le}
use Rattle.asn1_values_alphabets.proofs.SingleRuns.{Ascends, how_many-singles, place-le, largest-singles, le-largest, place_of-get_or, place_of-none, StandsAt, stands_at}
use Rattle.std.proofs.Math.Nat.{pow-le-pow_right}
use Rattle.std.proofs.lemmas.Nat.{one_shl}

abbrev pub coded : List ℕ → ℕ → CodedCharacters
coded cs w = record { characters = cs; code_bits = w }

-- a width that holds the number of characters less one has a code for each
pub enough : (cs : List ℕ) (w : ℕ) → width (how_many (singles cs) - 1) ≤ w → length cs ≤ 2 ^ w
enough cs w h =
    let a = lt-pow-width (how_many (singles cs) - 1) in
    let b : 2 ^ width (how_many (singles cs) - 1) ≤ 2 ^ w = pow-le-pow_right {n = 2} (omega arith) h in
    let n = how_many-singles cs in
    omega arith

-- characters of 32 bits need no code of more
pub fewest-le : (cs : List ℕ) → Ascends cs → ((i : ℕ) → i < length cs → get_or cs i 0 < 2 ^ 32) → width (how_many (singles cs) - 1) ≤ 32
fewest-le [] a h = width-le 0 32 (lit< tt)
fewest-le (c ∷ cs) a h =
    let p : length cs ≤ get_or (c ∷ cs) (length cs) 0 = place-le (c ∷ cs) (length cs) a (omega arith) in
    let q : get_or (c ∷ cs) (length cs) 0 < 2 ^ 32 = h (length cs) (omega arith) in
    let n = how_many-singles (c ∷ cs) in
    width-le (how_many (singles (c ∷ cs)) - 1) 32 (omega arith)

-- the code of a character of the alphabet
pub code_of-get_or : (cs : List ℕ) (w i : ℕ) → Ascends cs → i < length cs → code_of (coded cs w) (get_or cs i 0) ≡ Some (cond (ltb (largest (singles cs)) (2 ^ w)) (get_or cs i 0) i)
code_of-get_or cs w i a h = rw (place_of-get_or cs i a h) refl

-- other characters have none
pub code_of-none : (cs : List ℕ) (w x : ℕ) → ((i : ℕ) → i < length cs → get_or cs i 0 ≢ x) → code_of (coded cs w) x ≡ None
code_of-none cs w x h = rw (place_of-none cs x h) refl

-- each code is below two to the width
pub code-lt : (cs : List ℕ) (w i : ℕ) (t : Bool) → Ascends cs → length cs ≤ 2 ^ w → ltb (largest (singles cs)) (2 ^ w) ≡ t → i < length cs → cond t (get_or cs i 0) i < 2 ^ w
code-lt cs w i true a e t h = let l = le-largest cs i a h in let m = ltb-true _ _ t in omega arith
code-lt cs w i false a e t h = omega arith

-- a character with that code has an index, and the code is computed from both
pub record HasCode (cs : List ℕ) (w x k : ℕ) : Type 0 where
  pub place : ℕ
  pub stands : StandsAt cs x place
  pub is : cond (ltb (largest (singles cs)) (2 ^ w)) x place ≡ k

pub has_code : (cs : List ℕ) (w x k : ℕ) → code_of (coded cs w) x ≡ Some k → HasCode cs w x k
has_code cs w x k e = at (place_of x (singles cs)) refl e
  where
    at : (o : Option ℕ) → place_of x (singles cs) ≡ o → option_map (λ i. cond (ltb (largest (singles cs)) (2 ^ w)) x i) o ≡ Some k → HasCode cs w x k
    at None p q = cc
    at (Some i) p q = record { place = i; stands = stands_at cs x i p; is = cc }

-- no two characters have the same code
pub same_code : (cs : List ℕ) (w x y k : ℕ) → code_of (coded cs w) x ≡ Some k → code_of (coded cs w) y ≡ Some k → x ≡ y
same_code cs w x y k e f = go (ltb (largest (singles cs)) (2 ^ w)) (has_code cs w x k e).is (has_code cs w y k f).is
  where
    go : (t : Bool) → cond t x (has_code cs w x k e).place ≡ k → cond t y (has_code cs w y k f).place ≡ k → x ≡ y
    go true p q = cc
    go false p q = let a = (has_code cs w x k e).stands.is in let b = (has_code cs w y k f).stands.is in sym a ∙ ap (λ i. get_or cs i 0) (p ∙ sym q) ∙ b

pub narrow : (cs : List ℕ) (w x k : ℕ) → Ascends cs → length cs ≤ 2 ^ w → code_of (coded cs w) x ≡ Some k → k < 2 ^ w
narrow cs w x k a e h =
    let p = has_code cs w x k h in
    let q : cond (ltb (largest (singles cs)) (2 ^ w)) (get_or cs p.place 0) p.place ≡ k = rw p.stands.is p.is in
    subst (λ n. n < 2 ^ w) q (code-lt cs w p.place (ltb (largest (singles cs)) (2 ^ w)) a e refl p.stands.within)

-- an index is at most the character at that index
pub place_of-le : (cs : List ℕ) (x i : ℕ) → Ascends cs → place_of x (singles cs) ≡ Some i → i ≤ x
place_of-le cs x i a h =
    let s = stands_at cs x i h in
    let l : i ≤ get_or cs i 0 = place-le cs i a s.within in
    let e = s.is in
    omega arith

-- where codes are indices, the character at an index has it as its code
pub code_of-place : (cs : List ℕ) (w i : ℕ) → Ascends cs → ltb (largest (singles cs)) (2 ^ w) ≡ false → i < length cs → code_of (coded cs w) (get_or cs i 0) ≡ Some i
code_of-place cs w i a t h = rw (place_of-get_or cs i a h, t) refl

-- and there is no code past the last index
pub code_of-past : (cs : List ℕ) (w x i : ℕ) → ltb (largest (singles cs)) (2 ^ w) ≡ false → length cs ≤ i → code_of (coded cs w) x ≢ Some i
code_of-past cs w x i t h e =
    let p = has_code cs w x i e in
    let q : p.place ≡ i = rw t at p.is in
    let l = p.stands.within in
    omega arith

-- codes that are values: the comparison that is made in 64 bits
pub is_by_number : (cs : List ℕ) (n w : ℕ) → w ≤ 32 → n ≡ largest (singles cs) → ltb n (1 * 2 ^ w % 2 ^ 64) ≡ ltb (largest (singles cs)) (2 ^ w)
is_by_number cs n w h e = rw (one_shl w 64 (omega arith), e) refl

pub largest-empty : (cs : List ℕ) → length cs ≡ 0 → 0 ≡ largest (singles cs)
largest-empty [] h = refl
largest-empty (c ∷ cs) h = cc

pub largest-last : (cs : List ℕ) (i : ℕ) → suc i ≡ length cs → get_or cs i 0 ≡ largest (singles cs)
largest-last [] i h = cc
largest-last (c ∷ cs) i h = let e : i ≡ length cs = omega arith in rw (e, largest-singles c cs) refl

le_or_lt : (i k : ℕ) → (i ≤ k) ⊎ (k < i)
le_or_lt i k = grind arith

-- what a binary search finds is the index
pub found_place : (cs : List ℕ) (x : ℕ) (r : Result ℕ ℕ) → Ascends cs →
    MatchResult r (λ i. (i < length cs) × (get_or cs i 0 ≡ x)) (λ i. (i ≤ length cs) × ((k : ℕ) → k < i → get_or cs k 0 < x) ×
    ((k : ℕ) → i ≤ k → k < length cs → x < get_or cs k 0)) → result_ok r ≡ place_of x (singles cs)
found_place cs x (Ok i) a h = rw (← h.1, place_of-get_or cs i a h.0) refl
found_place cs x (Err i) a h = rw (place_of-none cs x (λ k l e. nowhere k l e (le_or_lt i k))) refl
  where
    nowhere : (k : ℕ) → k < length cs → get_or cs k 0 ≡ x → (i ≤ k) ⊎ (k < i) → ⊥
    nowhere k l e (inl g) = let b = h.2 k g l in omega arith
    nowhere k l e (inr g) = let b = h.1 k g in omega arith
