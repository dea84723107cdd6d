use Rattle.asn1_values_bits.specs.BitStr.{bits_of}
use Rattle.per_codec_reading.proofs.Fronts.{zero_bits}
use Rattle.per_codec_reading.proofs.padding.are_zero.Goals as goal

pub returns : goal.returns
returns c = zero_bits c.len.result c.first_number.result (bits_of c.args.bits) c.len.ensures c.first_number.ensures.digits c.first_number.ensures.fits
