use Rattle.std.proofs.Common.{sym, ◌∙◌}
use Rattle.asn1_laws_versions.proofs.Relays.{does}
use Rattle.asn1_laws_versions.proofs.route_laws.older_relay_does.Goals as goal

pub returns : goal.returns
returns c = λ source target old new limit vs w number n out o rest r halt why lo ln ext h k.
    let d = does source target old new limit lo ln ext vs w number out rest halt h k.messages o r why k.front k.stops in
    (sym k.counted ∙ d.0, d.1, d.2, d.3)
