use Rattle.per_codec_writing.proofs.Fragments.{all_octets}
use Rattle.per_codec_writing.proofs.members.are_octets.Goals as goal

pub returns : goal.returns
returns c = all_octets c.args.octets.now c.type_inv.octets
