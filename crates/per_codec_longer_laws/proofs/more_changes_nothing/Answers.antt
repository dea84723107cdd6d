use Rattle.per_codec_longer_laws.proofs.Chained as Chained
use Rattle.per_codec_longer_laws.proofs.more_changes_nothing.Goals as goal

pub returns : goal.returns
returns c = Chained.chain_more
