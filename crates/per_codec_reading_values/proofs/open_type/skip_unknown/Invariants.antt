use Rattle.std.proofs.Common.{length}
use Rattle.per_codec_reading.specs.Fronts.{freedoms, is_aligned}
use Rattle.per_codec_reading_values.proofs.Passing.{Reaches}
use Rattle.per_codec_reading_values.proofs.open_type.skip_unknown.Given as goal

-- the additions of the presence bits so far are skipped
abbrev pub invariant-loop-is_there : goal.invariant-loop-is_there
invariant-loop-is_there l = Reaches (freedoms l.rules) (is_aligned l.rules) l.fn.presence_bits.place.1 l.fn.cursor l.presence_bits.place.1 l.cursor

abbrev pub decreases-loop-is_there : goal.decreases-loop-is_there
decreases-loop-is_there l = length l.presence_bits.place.1
