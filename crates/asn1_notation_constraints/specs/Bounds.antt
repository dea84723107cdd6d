-- Bounds of numbers and of sizes (X.680 51.4 and 51.5).
use Rattle.std.specs.Prelude.{◌≡◌, ◌⊎◌, ◌||◌, ℕ, ◌^◌, ℤ, pos, ◌≤ℤ◌, Bool}
use Rattle.std.specs.Prelude.{true, false, List, Option, Some, None, is_some, option_map, ⊤}
use Rattle.asn1_notation_intervals.specs.declared.intervals.Interval.{Interval}
use Rattle.asn1_notation_intervals.specs.Sets.{IsGreatest, IsLeast, is_in}
use Rattle.asn1_schema_constraints.specs.Bounds.{counts_of, lower, upper}
use Rattle.asn1_schema_constraints.specs.declared.sizes.Sizes.{Sizes}
use Rattle.asn1_notation_constraints.specs.declared.bounds.BoundsError.{BoundsError}
use Rattle.asn1_notation_constraints.specs.declared.bounds.BoundsError.TheVariants.{Empty, TooLarge, OutOfMemory}
use Rattle.asn1_notation_constraints.specs.declared.bounds.Limits.{Limits}
use Rattle.asn1_notation_constraints.specs.declared.constraints.Visible.{Visible}

-- No number is in a set.
abbrev pub IsEmpty : List Interval → Type 0
IsEmpty s = (z : ℤ) → is_in s z ≡ false

-- There is a least or a greatest number, or an extension marker.
abbrev pub has_limit : Option ℤ → Option ℤ → Bool → Bool
has_limit low high is_extensible = is_some low || is_some high || is_extensible

-- The limits of a constraint: the least and the greatest number of its root, and its extension marker; none where there
-- is no such number, and no marker.
abbrev pub AreLimits : Visible → Option Limits → Type 0
AreLimits v (Some l) =
    IsLeast v.numbers (lower l.root) × IsGreatest v.numbers (upper l.root) × (l.is_extensible ≡ v.is_extensible)
    × (has_limit (lower l.root) (upper l.root) l.is_extensible ≡ true)
AreLimits v None = IsLeast v.numbers None × IsGreatest v.numbers None × (v.is_extensible ≡ false)

-- No size is in a set.
abbrev pub HasNoSize : List Interval → Type 0
HasNoSize s = (n : ℕ) → is_in s (pos n) ≡ false

-- An end is the least size in a set.
abbrev pub IsLeastSize : List Interval → ℤ → Type 0
IsLeastSize s low =
    (pos 0 ≤ℤ low) × (is_in s low ≡ true) × ((n : ℕ) → is_in s (pos n) ≡ true → low ≤ℤ pos n)

-- An end is the greatest size in a set, or missing where the set has sizes above each size.
abbrev pub IsGreatestSize : List Interval → Option ℤ → Type 0
IsGreatestSize s (Some high) =
    (pos 0 ≤ℤ high) × (is_in s high ≡ true) × ((n : ℕ) → is_in s (pos n) ≡ true → pos n ≤ℤ high)
IsGreatestSize s None = (n : ℕ) → (m : ℕ) × (pos n ≤ℤ pos m) × (is_in s (pos m) ≡ true)

-- The ends of an interval are the least and the greatest size in a set.
abbrev pub IsSizeHull : List Interval → Interval → Type 0
IsSizeHull s h = ((low : ℤ) × (h.low ≡ Some low) × IsLeastSize s low) × IsGreatestSize s h.high

-- The sizes of a constraint: the least and the greatest size of its root, and its extension marker.
abbrev pub AreSizes : Visible → Sizes → Type 0
AreSizes v z =
    IsLeastSize v.numbers (pos (counts_of z.root).low)
    × IsGreatestSize v.numbers (option_map pos (counts_of z.root).high) × (z.is_extensible ≡ v.is_extensible)

-- No size is in a set; or the least or the greatest one has more than 64 bits; or memory is missing.
abbrev pub IsSizeError : List Interval → BoundsError → Type 0
IsSizeError s Empty = HasNoSize s
IsSizeError s TooLarge =
    (z : ℤ) × (pos (2 ^ 64) ≤ℤ z) × (IsLeastSize s z ⊎ IsGreatestSize s (Some z))
IsSizeError s OutOfMemory = ⊤
