use Rattle.asn1_values_integers.proofs.KindLaws.{short-number, short-kept}
use Rattle.asn1_values_integers.proofs.integer.Integer.short.Goals as goal

pub invariant_of-result : goal.invariant_of-result
invariant_of-result c = short-kept c.args.negative c.args.magnitude c.last_octets.result c.requires c.ranges.magnitude.fits c.last_octets.ensures

pub returns : goal.returns
returns c = short-number c.args.negative c.args.magnitude c.last_octets.result c.requires c.ranges.magnitude.fits c.last_octets.ensures
