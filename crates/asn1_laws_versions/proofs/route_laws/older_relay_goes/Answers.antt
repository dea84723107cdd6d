use Rattle.asn1_laws_versions.proofs.Relays.{goes}
use Rattle.asn1_laws_versions.proofs.route_laws.older_relay_goes.Goals as goal

pub returns : goal.returns
returns c = λ source target old new limit vs w lo ln ext j. goes source target old new limit lo ln ext vs w j
