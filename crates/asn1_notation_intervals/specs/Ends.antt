-- The ends of intervals of whole numbers: a lower or an upper end that is missing leaves that side open (X.680 51.4).
use Rattle.std.specs.Prelude.{ℤ, int_le, int_lt, Bool, true, false, cond, ◌&&◌, Option, Some, None}
use Rattle.asn1_notation_intervals.specs.declared.intervals.Interval.{Interval}

-- A number is not below a lower end.
abbrev pub is_from : Option ℤ → ℤ → Bool
is_from None z = true
is_from (Some low) z = int_le low z

-- A number is not above an upper end.
abbrev pub is_to : Option ℤ → ℤ → Bool
is_to None z = true
is_to (Some high) z = int_le z high

-- A number is in an interval.
abbrev pub is_between : Interval → ℤ → Bool
is_between i z = is_from i.low z && is_to i.high z

-- A lower end is not above an upper end.
abbrev pub are_in_order : Option ℤ → Option ℤ → Bool
are_in_order (Some low) (Some high) = int_le low high
are_in_order low high = true

-- There is a number in an interval.
abbrev pub has_number : Interval → Bool
has_number i = are_in_order i.low i.high

-- An upper end is below a lower end.
abbrev pub is_before : Option ℤ → Option ℤ → Bool
is_before (Some high) (Some low) = int_lt high low
is_before high low = false

-- An upper end is below another upper end.
abbrev pub ends_first : Option ℤ → Option ℤ → Bool
ends_first (Some high) (Some other) = int_lt high other
ends_first (Some high) None = true
ends_first None other = false

-- A lower end is not above another lower end.
abbrev pub begins_by : Option ℤ → Option ℤ → Bool
begins_by None other = true
begins_by (Some low) (Some other) = int_le low other
begins_by (Some low) None = false

-- The greater of two lower ends.
abbrev pub later_low : Option ℤ → Option ℤ → Option ℤ
later_low (Some a) (Some b) = Some (cond (int_le a b) b a)
later_low (Some a) None = Some a
later_low None low = low

-- The lesser of two upper ends.
abbrev pub earlier_high : Option ℤ → Option ℤ → Option ℤ
earlier_high (Some a) (Some b) = Some (cond (int_le a b) a b)
earlier_high (Some a) None = Some a
earlier_high None high = high

-- The greater of two upper ends.
abbrev pub later_high : Option ℤ → Option ℤ → Option ℤ
later_high (Some a) (Some b) = Some (cond (int_le a b) b a)
later_high (Some a) None = None
later_high None high = None

-- What two intervals have in common.
abbrev pub meet_of : Interval → Interval → Interval
meet_of i j = record { low = later_low i.low j.low; high = earlier_high i.high j.high }

-- An interval that also reaches up to the end of another.
abbrev pub reach_of : Interval → Interval → Interval
reach_of i j = record { low = i.low; high = later_high i.high j.high }
