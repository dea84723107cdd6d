-- Intervals in the order of their lower ends.
use Rattle.std.specs.Prelude.{◌≡◌, ℕ, ◌+◌, ◌<◌, ℤ, Bool, true, List, length, Option, slice_index_or}
use Rattle.std.specs.List.{list_all}
use Rattle.asn1_notation_intervals.specs.declared.intervals.Interval.{Interval}
use Rattle.asn1_notation_intervals.specs.Ends.{begins_by}

-- No interval begins after a lower end.
abbrev pub begin_by : List Interval → Option ℤ → Bool
begin_by is low = list_all (λ i. begins_by i.low low) is

-- No interval begins after the next one.
abbrev pub LowsAscend : List Interval → Type 0
LowsAscend is =
    (k : ℕ) (d : Interval) → k + 1 < length is
    → begins_by (slice_index_or is k d).low (slice_index_or is (k + 1) d).low ≡ true
