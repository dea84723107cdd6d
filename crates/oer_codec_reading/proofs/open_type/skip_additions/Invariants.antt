use Rattle.std.proofs.Common.{length}
use Rattle.asn1_values_bits.specs.BitStr.{bits_of}
use Rattle.oer_codec_reading.specs.Fronts.{freedoms}
use Rattle.oer_codec_reading.proofs.Skipping.{Together}
use Rattle.oer_codec_reading.proofs.open_type.skip_additions.Given as goal

-- the additions of the presence bits so far are skipped
abbrev pub invariant-loop-is_there : goal.invariant-loop-is_there
invariant-loop-is_there l = Together (freedoms l.rules) (bits_of l.fn.presence_bits) (bits_of l.presence_bits) l.fn.cursor l.cursor

abbrev pub decreases-loop-is_there : goal.decreases-loop-is_there
decreases-loop-is_there l = length (bits_of l.presence_bits)
