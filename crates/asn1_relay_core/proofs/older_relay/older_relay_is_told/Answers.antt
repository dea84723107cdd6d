use Rattle.asn1_relay_core.proofs.OlderRelays.{older_told}
use Rattle.asn1_relay_core.proofs.older_relay.older_relay_is_told.Goals as goal

pub returns : goal.returns
returns g c = older_told g.Old.Described.schema g.New.Described.schema g.Old.Described.typed.lawful g.New.Described.typed.lawful
    g.Old.Described.typed.tidy g.met.New.Extends.extends g.met.New.Extends.old_unfolds
