use Rattle.per_codec_longer_laws.proofs.Chained as Chained
use Rattle.per_codec_longer_laws.proofs.more_comes_in_pieces.Goals as goal

pub returns : goal.returns
returns c = Chained.pieces
