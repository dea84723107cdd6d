use Rattle.asn1_laws_across.proofs.OfRigid.{uper_canonical, aper_canonical, coer_canonical}
use Rattle.asn1_laws_across.proofs.meaning_laws.rigid_is_canonical.Goals as goal

pub returns : goal.returns
returns c = (uper_canonical, aper_canonical, coer_canonical)
