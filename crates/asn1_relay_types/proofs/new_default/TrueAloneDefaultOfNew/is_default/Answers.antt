use Rattle.asn1_relay_types.proofs.Tests.{new_is_true, new_is_false}
use Rattle.asn1_relay_types.proofs.new_default.TrueAloneDefaultOfNew.is_default.Goals as goal

pub returns-then-component : goal.returns-then-component
returns-then-component c =
    let x = c.args.component.now.value in new_is_true _ x.a c.is_none.result x.b c.if-component.true c.is_none.ensures

pub returns-else-component : goal.returns-else-component
returns-else-component c =
    let x = c.args.component.now.value in new_is_false _ x.a x.b c.if-component.false
