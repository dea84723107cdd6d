use Rattle.asn1_values_alphabets.proofs.Widths.{width-leading}
use Rattle.per_codec_alphabets.proofs.alphabet.bits_of.Goals as goal

pub returns-clause-width : goal.returns-clause-width
returns-clause-width c = width-leading c.args.number c.ranges.number.fits
