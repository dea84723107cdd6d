use Rattle.per_codec_reading.proofs.OctetFronts.{packed_small}
use Rattle.per_codec_reading.proofs.counted_octets.joined_octets.Goals as goal

pub returns-clause-small : goal.returns-clause-small
returns-clause-small c = rw c.into_vec.ensures.octets (packed_small c.args.bits c.requires)
