use Rattle.per_codec_laws.proofs.Whole as Whole
use Rattle.per_codec_laws.proofs.records_are_the_form.Goals as goal

pub returns : goal.returns
returns c = Whole.each_bridges
