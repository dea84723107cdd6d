use Rattle.per_codec_reading.proofs.OctetFronts.{fits_octets}
use Rattle.per_codec_reading.proofs.input_octets.same_octets.Goals as goal

pub returns-clause-small : goal.returns-clause-small
returns-clause-small c = fits_octets c.args.octets.now c.type_inv.octets
