-- Sets of whole numbers, as lists of intervals.
use Rattle.std.specs.Prelude.{◌≡◌, ℤ, ◌≤ℤ◌, Bool, true, ◌&&◌, List, [], ◌∷◌, Option, Some, None}
use Rattle.std.specs.List.{list_all, list_any}
use Rattle.asn1_notation_intervals.specs.declared.intervals.Interval.{Interval}
use Rattle.asn1_notation_intervals.specs.Ends.{has_number, is_before, is_between}

-- A number is in one of some intervals.
abbrev pub is_in : List Interval → ℤ → Bool
is_in is z = list_any (λ i. is_between i z) is

-- There is a number in each interval, and each ends before all later ones begin.
abbrev pub ascend : List Interval → Bool
ascend [] = true
ascend (i ∷ is) = has_number i && list_all (λ j. is_before i.high j.low) is && ascend is

-- An end is the least number of a set, or missing where the set has numbers below each number.
abbrev pub IsLeast : List Interval → Option ℤ → Type 0
IsLeast is (Some low) = (is_in is low ≡ true) × ((z : ℤ) → is_in is z ≡ true → low ≤ℤ z)
IsLeast is None = (z : ℤ) → (y : ℤ) × (y ≤ℤ z) × (is_in is y ≡ true)

-- An end is the greatest number of a set, or missing where the set has numbers above each number.
abbrev pub IsGreatest : List Interval → Option ℤ → Type 0
IsGreatest is (Some high) = (is_in is high ≡ true) × ((z : ℤ) → is_in is z ≡ true → z ≤ℤ high)
IsGreatest is None = (z : ℤ) → (y : ℤ) × (z ≤ℤ y) × (is_in is y ≡ true)
