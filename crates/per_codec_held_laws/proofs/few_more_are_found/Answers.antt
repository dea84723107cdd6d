use Rattle.per_codec_held_laws.proofs.Carried as Carried
use Rattle.per_codec_held_laws.proofs.few_more_are_found.Goals as goal

pub returns : goal.returns
returns c = Carried.few_carried
