use Rattle.asn1_values_natives.proofs.Widths.{width-leading}
use Rattle.asn1_values_natives.proofs.octets.bit_count.Goals as goal

pub returns-clause-value : goal.returns-clause-value
returns-clause-value c = width-leading 128 c.args.number c.ranges.number.fits
