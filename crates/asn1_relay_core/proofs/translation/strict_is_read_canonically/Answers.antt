use Rattle.asn1_relay_core.proofs.Strictly.{strictly_canonical}
use Rattle.asn1_relay_core.proofs.translation.strict_is_read_canonically.Goals as goal

pub returns : goal.returns
returns c = strictly_canonical
