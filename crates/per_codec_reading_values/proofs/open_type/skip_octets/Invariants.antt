use Rattle.std.proofs.Common.{length}
use Rattle.per_codec_reading.specs.Fronts.{freedoms, is_aligned}
use Rattle.per_codec_reading_values.proofs.Passing.{Passed}
use Rattle.per_codec_reading_values.proofs.open_type.skip_octets.Given as goal

-- the fragments so far are skipped
abbrev pub invariant-fragments : goal.invariant-fragments
invariant-fragments l = Passed (freedoms l.rules) (is_aligned l.rules) l.fn.cursor l.last l.cursor

abbrev pub decreases-fragments : goal.decreases-fragments
decreases-fragments l = length l.cursor.1
