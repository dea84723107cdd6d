use Rattle.per_codec.proofs.Leniently.{for_memory, uper_widens, aper_widens}
use Rattle.per_codec.proofs.laws.strict_is_refused_for_memory.Goals as goal

pub returns : goal.returns
returns c = (for_memory _ _ uper_widens, for_memory _ _ aper_widens)
