use Rattle.oer_codec_laws.proofs.Whole as Whole
use Rattle.oer_codec_laws.proofs.encodings_are_found.Goals as goal

pub returns : goal.returns
returns c = (Whole.finds_oer, Whole.finds_coer)
