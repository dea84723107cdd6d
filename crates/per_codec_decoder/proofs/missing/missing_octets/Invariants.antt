use Rattle.std.proofs.Common.{ℕ, length}
use Rattle.per_codec_reading.specs.Fronts.{freedoms, is_aligned}
use Rattle.per_codec_reading.specs.Units.{counted_units}
use Rattle.per_codec_decoder.specs.Missing.{StillTooShort}
use Rattle.per_codec_decoder.proofs.missing.missing_octets.Given as goal

-- what is missing after the fragments that were skipped is missing from the start
abbrev pub invariant-fragments : goal.invariant-fragments
invariant-fragments l = (n : ℕ) → StillTooShort (freedoms l.rules) (counted_units (is_aligned l.rules) 8) l.behind n →
    StillTooShort (freedoms l.rules) (counted_units (is_aligned l.rules) 8) l.fn.cursor n

abbrev pub decreases-fragments : goal.decreases-fragments
decreases-fragments l = length l.behind.1
