use Rattle.per_codec_longer_laws.proofs.Empty as Empty
use Rattle.per_codec_longer_laws.proofs.values_take_some.Goals as goal

pub returns : goal.returns
returns c = Empty.some
