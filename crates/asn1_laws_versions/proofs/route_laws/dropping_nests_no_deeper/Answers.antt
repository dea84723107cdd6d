use Rattle.asn1_model.specs.Normal.{normal}
use Rattle.asn1_laws_versions.proofs.Dropping.{lessened_depth}
use Rattle.asn1_laws_versions.proofs.route_laws.dropping_nests_no_deeper.Goals as goal

pub returns : goal.returns
returns c = λ s t v u e. lessened_depth s t (normal t v) u e
