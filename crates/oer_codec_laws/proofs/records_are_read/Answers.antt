use Rattle.oer_codec_laws.proofs.Whole as Whole
use Rattle.oer_codec_laws.proofs.records_are_read.Goals as goal

pub returns : goal.returns
returns c = Whole.records_read
