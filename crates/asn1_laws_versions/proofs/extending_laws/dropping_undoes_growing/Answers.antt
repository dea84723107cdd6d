use Rattle.asn1_laws_versions.proofs.Back.{dropped_back}
use Rattle.asn1_laws_versions.proofs.extending_laws.dropping_undoes_growing.Goals as goal

pub returns : goal.returns
returns c = dropped_back
