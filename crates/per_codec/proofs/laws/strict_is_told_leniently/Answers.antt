use Rattle.per_codec.proofs.Leniently.{told_too, uper_widens, aper_widens}
use Rattle.per_codec.proofs.laws.strict_is_told_leniently.Goals as goal

pub returns : goal.returns
returns c = (told_too _ _ uper_widens, told_too _ _ aper_widens)
