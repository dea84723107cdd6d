-- The meaning of bounds: their ends, what they admit, and what two of them both admit.
use Rattle.std.specs.Prelude.{ℕ, ◌+◌, ◌-◌, ◌^◌, ltb, leb, ℤ, pos, ◌+ℤ◌, ◌-ℤ◌, ◌≤ℤ◌, ◌≤◌, FitsSigned, ◌≡◌, Bool, false}
use Rattle.std.specs.Prelude.{not, cond, ◌&&◌, ◌||◌, Option, Some, None, unwrap_or, is_some, true}
use Rattle.std.specs.Option.{SomeIff, option_map}
use Rattle.std.specs.Int.{w128}
use Rattle.asn1_model.specs.Schema.{Range, Counts}
use Rattle.asn1_model.specs.Numbers.{is_at_most, is_within, is_count_within}
use Rattle.asn1_model.specs.Numbers.{is_fixed_at}
use Rattle.asn1_schema_constraints.specs.declared.bounds.Bounded.{Bounded}
use Rattle.asn1_schema_constraints.specs.declared.bounds.Effective.{Effective}
use Rattle.asn1_schema_constraints.specs.declared.bounds.Effective.TheVariants.{Offset, Plain}
use Rattle.asn1_schema_constraints.specs.declared.bounds.Bounded.TheVariants.{None as Unbounded, Single}
use Rattle.asn1_schema_constraints.specs.declared.bounds.Bounded.TheVariants.{Range as Between}

-- The least value, if there is one (X.680 51.4).
abbrev pub lower : {X : Type 0} → Bounded X → Option X
lower Unbounded = None
lower (Single v) = Some v
lower (Between start end) = start

-- The greatest value, if there is one (X.680 51.4).
abbrev pub upper : {X : Type 0} → Bounded X → Option X
upper Unbounded = None
upper (Single v) = Some v
upper (Between start end) = end

-- Bounds of numbers as a range of the model (X.680 51.4).
abbrev pub range_of : Bounded ℤ → Range
range_of b = record { low = lower b; high = upper b }

-- Bounds of counts as counts of the model (X.680 51.5).
abbrev pub counts_of : Bounded ℕ → Counts
counts_of b = record { low = unwrap_or (lower b) 0; high = upper b }

-- The numbers of elements that a user-defined type holds; without an upper bound, up to the greatest 64-bit number.
abbrev pub members_of : Bounded ℕ → Counts
members_of b = record { low = unwrap_or (lower b) 0; high = Some (unwrap_or (upper b) (2 ^ 64 - 1)) }

-- Only one size is allowed: the greatest is the least, which is 0 if none is given (X.680 51.5).
abbrev pub is_one_size : Bounded ℕ → Bool
is_one_size b = is_fixed_at (counts_of b) (upper b)

-- A least or a greatest size is given, and not only one size is allowed.
abbrev pub is_size_range : Bounded ℕ → Bool
is_size_range b = (is_some (lower b) || is_some (upper b)) && not (is_one_size b)

-- A result is the count of numbers from one to another, exactly if both are there and 128 bits of two's complement
-- hold that count.
abbrev pub IsSpan : Option ℤ → Option ℤ → Option ℤ → Type 0
IsSpan (Some low) (Some high) answer = SomeIff answer (FitsSigned w128 ((high -ℤ low) +ℤ pos 1))
    ((high -ℤ low) +ℤ pos 1)
IsSpan low high answer = answer ≡ None

-- The count of sizes from one to another, if both are there and 64 bits hold that count.
abbrev pub counted : Option ℕ → Option ℕ → Option ℕ
counted (Some low) (Some high) = cond (leb low (high + 1) && ltb ((high + 1) - low) (2 ^ 64))
    (Some ((high + 1) - low)) None
counted low high = None

-- The greater of two lower bounds, if there are any.
abbrev pub later : {X : Type 0} → (X → X → Bool) → Option X → Option X → Option X
later le (Some a) (Some b) = Some (cond (le a b) b a)
later le (Some a) None = Some a
later le None o = o

-- The lesser of two upper bounds, if there are any.
abbrev pub earlier : {X : Type 0} → (X → X → Bool) → Option X → Option X → Option X
earlier le (Some a) (Some b) = Some (cond (le a b) a b)
earlier le (Some a) None = Some a
earlier le None o = o

-- The bounds with these ends: equal ends are a single value, no ends are no bounds.
abbrev pub between : {X : Type 0} → (X → X → Bool) → Option X → Option X → Bounded X
between le (Some a) (Some b) = cond (le a b && le b a) (Single a) (Between (Some a) (Some b))
between le (Some a) None = Between (Some a) None
between le None (Some b) = Between None (Some b)
between le None None = Unbounded

-- The bounds of what two bounds both admit (X.680 50): from the greater lower bound to the lesser upper bound.
abbrev pub meet : {X : Type 0} → (X → X → Bool) → Bounded X → Bounded X → Bounded X
meet le a b = between le (later le (lower a) (lower b)) (earlier le (upper a) (upper b))

-- Both ends are there, and the lower one is above the upper one, so that no value is admitted.
abbrev pub is_inverted : {X : Type 0} → (X → X → Bool) → Option X → Option X → Bool
is_inverted le (Some a) (Some b) = not (le a b)
is_inverted le low high = false

-- The bounds of what two bounds both admit, if there is such a value.
abbrev pub common : {X : Type 0} → (X → X → Bool) → Bounded X → Bounded X → Option (Bounded X)
common le a b =
    cond (is_inverted le (later le (lower a) (lower b)) (earlier le (upper a) (upper b))) None (Some (meet le a b))

-- The number minus the start of a range that has one fits, and is not negative.
abbrev pub CanOffset : Bounded ℤ → ℤ → Type 0
CanOffset (Between (Some start) end) v = (start ≤ℤ v) × FitsSigned w128 (v -ℤ start)
CanOffset b v = Unit {0}

-- A number as it is encoded under bounds: minus the start of a range that has one, else unchanged.
abbrev pub effective : Bounded ℤ → ℤ → Effective ℤ
effective (Between (Some start) end) v = Offset (v -ℤ start)
effective b v = Plain v

-- Whether bounds admit a number (X.680 51.4).
abbrev pub admits_number : Bounded ℤ → ℤ → Bool
admits_number b v = is_within (range_of b) v

-- Whether bounds admit a count (X.680 51.5).
abbrev pub admits_count : Bounded ℕ → ℕ → Bool
admits_count b n = is_count_within (counts_of b) n

-- Whether there are bounds that admit a value.
abbrev pub are_admitting : {X : Type 0} → (Bounded X → X → Bool) → Option (Bounded X) → X → Bool
are_admitting admits None v = false
are_admitting admits (Some b) v = admits b v

-- The count is at least the start of a range that has one.
abbrev pub CanOffsetCount : Bounded ℕ → ℕ → Type 0
CanOffsetCount (Between (Some start) end) n = start ≤ n
CanOffsetCount b n = Unit {0}

-- A count as it is encoded under bounds: minus the start of a range that has one, else unchanged.
abbrev pub effective_count : Bounded ℕ → ℕ → Effective ℕ
effective_count (Between (Some start) end) n = Offset (n - start)
effective_count b n = Plain n

-- ---- values of any type, by the numbers that they are

-- Whether a value is at most another, by their numbers.
abbrev pub at_most_by : {X : Type 0} → (X → ℤ) → X → X → Bool
at_most_by number a b = is_at_most (number a) (number b)

-- The numbers of the bounds as a range of the model (X.680 51.4).
abbrev pub range_by : {X : Type 0} → (X → ℤ) → Bounded X → Range
range_by number b = record { low = option_map number (lower b); high = option_map number (upper b) }

-- Whether bounds admit a value (X.680 51.4).
abbrev pub admits_by : {X : Type 0} → (X → ℤ) → Bounded X → X → Bool
admits_by number b v = is_within (range_by number b) (number v)

-- The count of numbers from one to another, if both are there and a range has that count.
abbrev pub counted_within : Range → Option ℤ → Option ℤ → Option ℤ
counted_within held (Some low) (Some high) = cond (is_within held ((high -ℤ low) +ℤ pos 1))
    (Some ((high -ℤ low) +ℤ pos 1)) None
counted_within held low high = None

-- The number minus the start of a range that has one is not negative, and a range has it.
abbrev pub CanOffsetBy : {X : Type 0} → Range → (X → ℤ) → Bounded X → X → Type 0
CanOffsetBy held number (Between (Some start) end) v = (number start ≤ℤ number v)
    × (is_within held (number v -ℤ number start) ≡ true)
CanOffsetBy held number b v = Unit {0}

-- A value as it is encoded under bounds: its number minus the start of a range that has one, else unchanged.
abbrev pub IsEffectiveBy : {X : Type 0} → (X → ℤ) → Bounded X → X → Effective X → Type 0
IsEffectiveBy number (Between (Some start) end) v (Offset d) = number d ≡ number v -ℤ number start
IsEffectiveBy number (Between (Some start) end) v (Plain d) = ⊥
IsEffectiveBy number b v e = e ≡ Plain v
