use Rattle.asn1_laws_versions.proofs.Levels.{same_depth}
use Rattle.asn1_laws_versions.proofs.extending_laws.same_nests_alike.Goals as goal

pub returns : goal.returns
returns c = same_depth
