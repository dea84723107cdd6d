use Rattle.std.proofs.Common.{sym, ◌∙◌}
use Rattle.asn1_relay_types.proofs.Tests.{new_is_true, new_is_false}
use Rattle.asn1_relay_types.proofs.Emptied.{empty_unless}
use Rattle.asn1_relay_types.proofs.new_default.NewDefaultFieldsGroupComponents.is_empty.Goals as goal

pub returns-then-self : goal.returns-then-self
returns-then-self c =
    let x = c.args.self.now.s.value in
    new_is_true _ x.a c.is_none.result x.b c.if-self.true c.is_none.ensures ∙ sym (empty_unless _ _)

pub returns-else-self : goal.returns-else-self
returns-else-self c =
    let x = c.args.self.now.s.value in new_is_false _ x.a x.b c.if-self.false ∙ sym (empty_unless _ _)
