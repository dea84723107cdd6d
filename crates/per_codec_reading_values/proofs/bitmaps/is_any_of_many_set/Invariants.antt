use Rattle.std.proofs.Common.{◌≡◌, length}
use Rattle.asn1_schema_reading_laws.specs.PresenceBits.{is_any_set}
use Rattle.asn1_values_bits.specs.BitStr.{bits_of}
use Rattle.per_codec_reading_values.proofs.bitmaps.is_any_of_many_set.Given as goal

-- a bit is set if one of those that are left is
abbrev pub invariant-loop-rest : goal.invariant-loop-rest
invariant-loop-rest l = is_any_set (bits_of l.rest) ≡ is_any_set (bits_of l.bits)

abbrev pub decreases-loop-rest : goal.decreases-loop-rest
decreases-loop-rest l = length (bits_of l.rest)
