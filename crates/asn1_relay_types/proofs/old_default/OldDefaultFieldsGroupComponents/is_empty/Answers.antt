use Rattle.std.proofs.Common.{sym, ◌∙◌}
use Rattle.asn1_relay_types.proofs.Tests.{old_is_true}
use Rattle.asn1_relay_types.proofs.Emptied.{empty_unless}
use Rattle.asn1_relay_types.proofs.old_default.OldDefaultFieldsGroupComponents.is_empty.Goals as goal

pub returns : goal.returns
returns c = old_is_true c.args.self.now.s.value.a ∙ sym (empty_unless _ _)
