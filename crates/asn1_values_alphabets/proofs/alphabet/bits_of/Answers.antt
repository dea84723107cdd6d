use Rattle.asn1_values_alphabets.proofs.Widths.{width-leading}
use Rattle.asn1_values_alphabets.proofs.alphabet.bits_of.Goals as goal

pub returns : goal.returns
returns c = width-leading c.args.number c.ranges.number.fits
