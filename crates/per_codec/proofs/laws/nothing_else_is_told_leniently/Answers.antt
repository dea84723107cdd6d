use Rattle.asn1_laws_fronts.proofs.Forms.{one_front_uper, one_front_aper}
use Rattle.per_codec.proofs.Leniently.{told_alone, uper_widens, aper_widens}
use Rattle.per_codec.proofs.laws.nothing_else_is_told_leniently.Goals as goal

pub returns : goal.returns
returns c = (told_alone _ _ uper_widens one_front_uper, told_alone _ _ aper_widens one_front_aper)
