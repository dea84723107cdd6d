use Rattle.asn1_values_bits.specs.BitStr.{bits_of}
use Rattle.per_codec_reading_values.proofs.SetBits.{set_unless_zero}
use Rattle.per_codec_reading_values.proofs.bitmaps.is_any_set.Goals as goal

pub returns : goal.returns
returns c = set_unless_zero c.are_zero.result (bits_of c.args.bits) c.are_zero.ensures
