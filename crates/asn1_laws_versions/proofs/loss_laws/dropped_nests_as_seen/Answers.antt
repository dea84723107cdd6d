use Rattle.asn1_model.specs.Normal.{normal}
use Rattle.asn1_laws_versions.proofs.Losses.{dropped_depth}
use Rattle.asn1_laws_versions.proofs.loss_laws.dropped_nests_as_seen.Goals as goal

pub returns : goal.returns
returns c = λ s t v w e. dropped_depth s t (normal t v) w e
