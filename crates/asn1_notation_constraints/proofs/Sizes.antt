-- The least and the greatest size in a set, by those of its numbers from 0 on.
use Rattle.std.proofs.Common.{◌≡◌, ℕ, ℤ, pos, negsuc, Bool, true, false, ◌&&◌, List, Option, Some, None, refl, sym, ◌∙◌, arith}
use Rattle.std.specs.Prelude.{◌||◌, int_le, ◌≤ℤ◌, MatchOption}
use Rattle.std.proofs.lemmas.Bool.{and_from, and_parts}
use Rattle.std.proofs.lemmas.Int.{ints}
use Rattle.asn1_notation_intervals.specs.declared.intervals.Interval.{Interval}
use Rattle.asn1_notation_intervals.specs.Sets.{IsGreatest, IsLeast, is_in}
use Rattle.asn1_notation_constraints.specs.Bounds.{HasNoSize, IsGreatestSize, IsLeastSize, IsSizeHull}

from_zero : (z : ℤ) → int_le (pos 0) z ≡ true → pos 0 ≤ℤ z
from_zero z h = grind (arith, ints)

zero_to : (n : ℕ) → int_le (pos 0) (pos n) ≡ true
zero_to n = grind (arith, ints)

not_below_zero : (y : ℤ) → y ≤ℤ negsuc 0 → int_le (pos 0) y ≡ true → ⊥
not_below_zero y h k = no (from_zero y k)
  where
    no : pos 0 ≤ℤ y → ⊥
    no k = omega (arith, ints)

no_negative : (m : ℕ) → int_le (pos 0) (negsuc m) ≡ true → ⊥
no_negative m h = absurd (cc)

drop_second : (a b : Bool) → (a && b) ≡ false → b ≡ true → a ≡ false
drop_second true b h k = sym k ∙ h
drop_second false b h k = refl

module _ (s t : List Interval) (e : (z : ℤ) → is_in t z ≡ (is_in s z && int_le (pos 0) z)) where
  pub no_size : ((z : ℤ) → is_in t z ≡ false) → HasNoSize s
  no_size h = λ n. drop_second (is_in s (pos n)) (int_le (pos 0) (pos n)) (sym (e (pos n)) ∙ h (pos n)) (zero_to n)

  parts : (z : ℤ) → is_in t z ≡ true → (is_in s z ≡ true) × (int_le (pos 0) z ≡ true)
  parts z h = and_parts (is_in s z) (int_le (pos 0) z) (sym (e z) ∙ h)

  both : (n : ℕ) → is_in s (pos n) ≡ true → is_in t (pos n) ≡ true
  both n h = e (pos n) ∙ and_from (is_in s (pos n)) (int_le (pos 0) (pos n)) h (zero_to n)

  least : (low : Option ℤ) → IsLeast t low → (l : ℤ) × (low ≡ Some l) × IsLeastSize s l
  least (Some l) h =
      let p = parts l h.0 in
      (l, refl, (from_zero l p.1, p.0, λ n k. h.1 (pos n) (both n k)))
  least None h =
      let y = h (negsuc 0) in
      absurd (not_below_zero y.0 y.1 (parts y.0 y.2).1)

  greatest : (high : Option ℤ) → IsGreatest t high → IsGreatestSize s high
  greatest (Some m) h =
      let p = parts m h.0 in
      (from_zero m p.1, p.0, λ n k. h.1 (pos n) (both n k))
  greatest None h = λ n. let y = h (pos n) in at n y.0 y.1 (parts y.0 y.2)
    where
      at : (n : ℕ) (y : ℤ) → pos n ≤ℤ y → (is_in s y ≡ true) × (int_le (pos 0) y ≡ true) → (m : ℕ) × (pos n ≤ℤ pos m) × (is_in s (pos m) ≡ true)
      at n (pos m) l p = (m, l, p.0)
      at n (negsuc m) l p = absurd (no_negative m p.1)

  pub size_hull : (h : Interval) → IsLeast t h.low × IsGreatest t h.high → IsSizeHull s h
  size_hull h b = (least h.low b.0, greatest h.high b.1)

  pub size_match : (h : Option Interval) → MatchOption h ((z : ℤ) → is_in t z ≡ false) (λ x. IsLeast t x.low × IsGreatest t x.high) → MatchOption h (HasNoSize s) (IsSizeHull s)
  size_match None m = no_size m
  size_match (Some h) m = size_hull h m

pub open_end : (b : Bool) → ((b && true) || false) ≡ b
open_end true = refl
open_end false = refl
