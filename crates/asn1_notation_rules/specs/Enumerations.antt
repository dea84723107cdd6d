-- The numbers of the items of an ENUMERATED (X.680 20.3 to 20.6).
use Rattle.std.specs.Prelude.{◌≡◌, ◌^◌, ◌-◌, ℤ, pos, ◌+ℤ◌, ◌≤ℤ◌, ◌<ℤ◌, int_lt}
use Rattle.std.specs.Prelude.{Bool, true, false, ◌||◌, List, [], ◌∷◌, ◌++◌}
use Rattle.std.specs.Prelude.{Option, Some, None, ⊤, length, take, slice_get}
use Rattle.std.specs.List.{list_any}
use Rattle.std.specs.Ordering.{int_eq}
use Rattle.asn1_notation_rules.specs.declared.enumerations.ItemFlaw.{ItemFlaw}
use Rattle.asn1_notation_rules.specs.declared.enumerations.ItemFlaw.TheVariants.{Twice, NotAscending, NoNumber}
use Rattle.asn1_notation_rules.specs.declared.enumerations.ItemError.{ItemError}
use Rattle.asn1_notation_rules.specs.declared.enumerations.ItemError.TheVariants.{Flawed, OutOfMemory}

-- A number is one of some.
abbrev pub has_number : List ℤ → ℤ → Bool
has_number ns m = list_any (λ n. int_eq n m) ns

-- The numbers that items are given.
abbrev pub given_in : List (Option ℤ) → List ℤ
given_in [] = []
given_in (None ∷ is) = given_in is
given_in (Some n ∷ is) = n ∷ given_in is

-- The lowest number, from one on, that is not taken.
pub record IsLowestFree (taken : ℤ → Bool) (from n : ℤ) : Type 0 where
  pub not_below : from ≤ℤ n
  pub free : taken n ≡ false
  pub lowest : (m : ℤ) → from ≤ℤ m → m <ℤ n → taken m ≡ true

-- Each number from one on is taken, as far as 64 bits go.
abbrev pub IsFull : (ℤ → Bool) → ℤ → Type 0
IsFull taken from = (m : ℤ) → from ≤ℤ m → m <ℤ pos (2 ^ 63) → taken m ≡ true

-- The last of some numbers, if there is one.
abbrev pub last_of : List ℤ → Option ℤ
last_of ns = slice_get ns (length ns - 1)

-- A number is above another, if there is one.
abbrev pub is_above : Option ℤ → ℤ → Bool
is_above None n = true
is_above (Some m) n = int_lt m n

-- The first number above another, or 0.
abbrev pub number_after : Option ℤ → ℤ
number_after None = pos 0
number_after (Some m) = m +ℤ pos 1

-- ---- one item

-- The number of a root item after those before it: the one that it is given, which is none of theirs (X.680 20.3); or
-- else the lowest from 0 on that no root item is given and none before it got (X.680 20.5).
abbrev pub IsRootNumber : List ℤ → List ℤ → Option ℤ → ℤ → Type 0
IsRootNumber given before (Some m) n = (n ≡ m) × (has_number before m ≡ false)
IsRootNumber given before None n = IsLowestFree (λ m. has_number given m || has_number before m) (pos 0) n

-- What is wrong with a root item after those before it.
abbrev pub IsRootFlaw : List ℤ → List ℤ → Option ℤ → ItemFlaw → Type 0
IsRootFlaw given before (Some m) Twice = has_number before m ≡ true
IsRootFlaw given before None NoNumber = IsFull (λ m. has_number given m || has_number before m) (pos 0)
IsRootFlaw given before i f = ⊥

-- The number of an added item after the added ones before it: the one that it is given, which no root item has, and
-- which is above theirs; or else the lowest above theirs, from 0 on where there are none, that no root item has
-- (X.680 20.6).
abbrev pub IsAddedNumber : List ℤ → List ℤ → Option ℤ → ℤ → Type 0
IsAddedNumber root before (Some m) n =
    (n ≡ m) × (has_number root m ≡ false) × (is_above (last_of before) m ≡ true)
IsAddedNumber root before None n = IsLowestFree (has_number root) (number_after (last_of before)) n

-- What is wrong with an added item after those before it.
abbrev pub IsAddedFlaw : List ℤ → List ℤ → Option ℤ → ItemFlaw → Type 0
IsAddedFlaw root before (Some m) Twice = has_number root m ≡ true
IsAddedFlaw root before (Some m) NotAscending = (has_number root m ≡ false) × (is_above (last_of before) m ≡ false)
IsAddedFlaw root before None NoNumber = IsFull (has_number root) (number_after (last_of before))
IsAddedFlaw root before i f = ⊥

-- ---- all items

-- Each item has a number that is right after the numbers before it.
abbrev pub AreNumbered : (List ℤ → Option ℤ → ℤ → Type 0) → List ℤ → List (Option ℤ) → List ℤ → Type 0
AreNumbered R before [] [] = ⊤
AreNumbered R before (i ∷ is) (n ∷ ns) = R before i n × AreNumbered R (before ++ n ∷ []) is ns
AreNumbered R before is ns = ⊥

-- The items before one have numbers, and this is wrong with that one.
abbrev pub IsNumberingError : (List ℤ → Option ℤ → ℤ → Type 0) → (List ℤ → Option ℤ → ItemFlaw → Type 0)
    → List (Option ℤ) → ItemError → Type 0
IsNumberingError R F is (Flawed k f) =
    (ns : List ℤ) × AreNumbered R [] (take k is) ns × ((i : Option ℤ) × (slice_get is k ≡ Some i) × F ns i f)
IsNumberingError R F is OutOfMemory = ⊤

-- ---- where the search for a number begins

-- The first number that may be free; without one, the first of more than 64 bits.
abbrev pub start_of : Option ℤ → ℤ
start_of None = pos (2 ^ 63)
start_of (Some n) = n

-- Each number from 0 to below one is given or got before, and each from there on that was got is given.
pub record IsNextFree (given before : List ℤ) (next : ℤ) : Type 0 where
  pub from_zero : pos 0 ≤ℤ next
  pub below : (m : ℤ) → pos 0 ≤ℤ m → m <ℤ next → (has_number given m || has_number before m) ≡ true
  pub above : (m : ℤ) → next ≤ℤ m → has_number given m ≡ false → has_number before m ≡ false
