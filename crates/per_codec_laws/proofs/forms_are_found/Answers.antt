use Rattle.per_codec_laws.proofs.Whole as Whole
use Rattle.per_codec_laws.proofs.forms_are_found.Goals as goal

pub returns : goal.returns
returns c = Whole.forms_show
