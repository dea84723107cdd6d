use Rattle.std.proofs.Common.{refl}
use Rattle.asn1_laws_values.proofs.unfolding_laws.level_rows.Goals as goal

pub returns : goal.returns
returns c = (refl, refl, refl, refl, refl)
