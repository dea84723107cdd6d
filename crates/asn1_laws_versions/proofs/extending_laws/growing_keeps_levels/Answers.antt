use Rattle.asn1_laws_versions.proofs.Levels.{grown_depth}
use Rattle.asn1_laws_versions.proofs.extending_laws.growing_keeps_levels.Goals as goal

pub returns : goal.returns
returns c = grown_depth
