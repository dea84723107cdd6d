use Rattle.oer_codec_longer_laws.proofs.Lengths as Lengths
use Rattle.oer_codec_longer_laws.proofs.lengths_are_lacking.Goals as goal

pub returns : goal.returns
returns c = Lengths.lengths
