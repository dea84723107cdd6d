-- Permitted alphabets as lists of characters (X.680 51.7).
use Rattle.std.specs.Prelude.{◌≡◌, ℕ, ◌+◌, ◌<◌, ◌≤◌, ◌^◌, ℤ, pos, int_le, int_lt}
use Rattle.std.specs.Prelude.{Bool, false, true, ◌&&◌, List, length, Option, Some, ⊤}
use Rattle.std.specs.Int.{int_gap}
use Rattle.std.specs.List.{list_any, sum_by}
use Rattle.std.specs.Ordering.{int_eq}
use Rattle.asn1_notation_intervals.specs.declared.intervals.Interval.{Interval}
use Rattle.asn1_notation_intervals.specs.Sets.{is_in}
use Rattle.asn1_notation_constraints.specs.declared.alphabets.AlphabetError.{AlphabetError}
use Rattle.asn1_notation_constraints.specs.declared.alphabets.AlphabetError.TheVariants.{NoCharacter, TooMany}
use Rattle.asn1_notation_constraints.specs.declared.alphabets.AlphabetError.TheVariants.{OutOfMemory}

-- A number is one of a character: from 0 on, of at most 32 bits.
abbrev pub is_character : ℤ → Bool
is_character z = int_le (pos 0) z && int_lt z (pos (2 ^ 32))

-- A number is that of one of some characters.
abbrev pub is_among : List ℕ → ℤ → Bool
is_among cs z = list_any (λ c. int_eq (pos c) z) cs

-- How many numbers are between two ends.
abbrev pub span_between : Option ℤ → Option ℤ → ℕ
span_between (Some low) (Some high) = int_gap low high + 1
span_between low high = 0

-- How many numbers are in some intervals, of which none overlap.
abbrev pub count_of : List Interval → ℕ
count_of is = sum_by (λ i. span_between i.low i.high) is

-- The ends of an interval are characters.
abbrev pub are_character_ends : Option ℤ → Option ℤ → Bool
are_character_ends (Some low) (Some high) = is_character low && is_character high
are_character_ends low high = false

-- Characters are the numbers of a set, each once, at most as many as given.
pub record AreCharacters (s : List Interval) (most : ℕ) (cs : List ℕ) : Type 0 where
  pub members : (z : ℤ) → is_in s z ≡ is_among cs z
  pub count : length cs ≡ count_of s
  pub few : length cs ≤ most

-- A number of a set is no character; or there are more than given; or memory is missing.
abbrev pub IsAlphabetError : List Interval → ℕ → AlphabetError → Type 0
IsAlphabetError s most NoCharacter = (z : ℤ) × (is_in s z ≡ true) × (is_character z ≡ false)
IsAlphabetError s most TooMany = most < count_of s
IsAlphabetError s most OutOfMemory = ⊤
