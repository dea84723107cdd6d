use Rattle.oer_codec_longer_laws.proofs.Lacking as Lacking
use Rattle.oer_codec_longer_laws.proofs.members_are_lacking.Goals as goal

pub returns : goal.returns
returns c = Lacking.lacking
