-- What a reader in memory returns.
use Rattle.std.proofs.Common.{◌≡◌, ℕ, ◌+◌, ◌-◌, ◌<◌, min, List, [], ◌∷◌, ◌++◌, length, take, drop, refl, ap, sym, ◌∙◌, subst, arith}
use Rattle.std.proofs.Math.Nat.{min-le_left}
use Rattle.std.proofs.Math.Seq.{take-append_seam, take-length}
use Rattle.std.proofs.lemmas.List.{drop-drop, length-append, length-drop, length-take-le, take-append-drop}

none_long : (l : List ℕ) → length l ≡ 0 → l ≡ []
none_long [] e = refl
none_long (x ∷ l) e = absurd (omega (arith, e))

-- the remaining octets, as a slice from a position on
pub left_of : (given : ℕ) (octets l : List ℕ) → l ≡ octets → take (length l - given) (drop given l) ≡ drop given octets
left_of given octets l e = subst (λ n. take n (drop given l) ≡ drop given l) (length-drop given l) (take-length (drop given l)) ∙ ap (drop given) e

module _ (octets room copied : List ℕ) (given count : ℕ) (is : count ≡ min (length (drop given octets)) (length room)) (after : copied ≡ take count (drop given octets)) where
  abbrev left : List ℕ
  left = drop given octets

  count_long : length copied ≡ count
  count_long = ap length after ∙ length-take-le count left (let a = min-le_left (length left) (length room) in omega arith)

  further : drop (given + count) octets ≡ drop count left
  further = sym (drop-drop count given octets)

  given_front : take count (copied ++ drop count room) ≡ copied
  given_front = subst (λ n. take n (copied ++ drop count room) ≡ copied) count_long (take-append_seam copied (drop count room))

  pub gives : drop given octets ≡ take count (copied ++ drop count room) ++ drop (given + count) octets
  gives = sym (take-append-drop count left) ∙ (ap (λ l. l ++ drop count left) (sym after ∙ sym given_front) ∙ ap (λ l. take count (copied ++ drop count room) ++ l) (sym further))

  pub tells_end : count ≡ 0 → 0 < length (copied ++ drop count room) → drop (given + count) octets ≡ []
  tells_end z p =
      let a = length-append copied (drop count room) in
      let b = length-drop count room in
      let c = count_long in
      let n : length left ≡ 0 = omega arith in
      further ∙ (subst (λ i. drop i left ≡ []) (sym z) (none_long left n))
