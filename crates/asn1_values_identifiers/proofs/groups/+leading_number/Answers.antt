use Rattle.std.proofs.Common.{◌≡◌, ◌/◌, ◌<◌, arith}
use Rattle.asn1_values_identifiers.proofs.Counts.{leading_bits_one, leading_bits_more, leading_fits_one, leading_fits_more, leading_small}
use Rattle.asn1_values_identifiers.proofs.groups.+leading_number.Goals as goal

pub returns-then-number-lt128-clause-bits : goal.returns-then-number-lt128-clause-bits
returns-then-number-lt128-clause-bits t c = leading_bits_one c.args.number c.requires.some c.if-number-lt128.true

pub returns-then-number-lt128-clause-fits : goal.returns-then-number-lt128-clause-fits
returns-then-number-lt128-clause-fits t c = leading_fits_one c.args.number c.requires.some c.if-number-lt128.true

pub returns-clause-bits : goal.returns-clause-bits
returns-clause-bits t c = leading_bits_more c.args.number c.leading_number.result c.if-number-lt128.false c.leading_number.ensures.bits

pub returns-clause-fits : goal.returns-clause-fits
returns-clause-fits t c = leading_fits_more c.args.number c.leading_number.result c.if-number-lt128.false c.leading_number.ensures.fits

pub returns-clause-few : goal.returns-clause-few
returns-clause-few t c = leading_small c.args.number _ c.requires.some c.requires.few (returns-clause-fits t c)
