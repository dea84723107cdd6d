use Rattle.std.proofs.Common.{◌*◌, length}
use Rattle.asn1_values_bits.specs.BitStr.{bits_of}
use Rattle.per_codec_reading.specs.Fronts.{freedoms, is_aligned}
use Rattle.per_codec_reading.proofs.Loops.{Joins}
use Rattle.per_codec_reading.proofs.runs.read_further.Given as goal

-- what is joined so far, and the units still to come
abbrev pub invariant-fragments : goal.invariant-fragments
invariant-fragments l = Joins (freedoms l.rules) (is_aligned l.rules) l.width l.multiple (l.multiple * 16384, bits_of l.bits) l.fn.cursor l.last (l.total, l.joined) l.cursor

abbrev pub decreases-fragments : goal.decreases-fragments
decreases-fragments l = length l.cursor.1
