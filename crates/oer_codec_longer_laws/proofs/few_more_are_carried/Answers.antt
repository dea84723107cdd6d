use Rattle.oer_codec_longer_laws.proofs.Levelled as Levelled
use Rattle.oer_codec_longer_laws.proofs.Few as Few
use Rattle.oer_codec_longer_laws.proofs.few_more_are_carried.Goals as goal

pub returns : goal.returns
returns c = Few.few_carried
