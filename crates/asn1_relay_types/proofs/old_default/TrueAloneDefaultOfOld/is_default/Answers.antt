use Rattle.asn1_relay_types.proofs.Tests.{old_is_true}
use Rattle.asn1_relay_types.proofs.old_default.TrueAloneDefaultOfOld.is_default.Goals as goal

pub returns : goal.returns
returns c = old_is_true c.args.component.now.value.a
