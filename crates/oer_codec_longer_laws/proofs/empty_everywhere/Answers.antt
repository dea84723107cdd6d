use Rattle.oer_codec_longer_laws.proofs.Empty as Empty
use Rattle.oer_codec_longer_laws.proofs.empty_everywhere.Goals as goal

pub returns : goal.returns
returns c = Empty.empty
