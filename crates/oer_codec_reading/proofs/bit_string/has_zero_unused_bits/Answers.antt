use Rattle.oer_codec_reading.proofs.BitFronts.{zero_unused_bits}
use Rattle.oer_codec_reading.proofs.bit_string.has_zero_unused_bits.Goals as goal

pub returns : goal.returns
returns c = zero_unused_bits c.args.count c.free_bits.result c.read_bits.result c.args.octets.now c.requires.whole c.free_bits.ensures c.read_bits.ensures.digits c.read_bits.ensures.fits
