use Rattle.oer_codec_longer_laws.proofs.Chained as Chained
use Rattle.oer_codec_longer_laws.proofs.what_is_left_is_not_needed.Goals as goal

pub returns : goal.returns
returns c = Chained.chain_back
