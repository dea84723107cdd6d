use Rattle.std.proofs.Common.{refl, subst, sym, [], IfSome}
use Rattle.std.proofs.lemmas.Result.{err_from_is_err_and}
use Rattle.asn1_relay_core.specs.Coding.{rules_of}
use Rattle.asn1_relay_core.specs.Recoding.{IsAnswer, refusal_of}
use Rattle.asn1_relay_core.proofs.Coded.{right_answered, right_not_written, only_one}
use Rattle.asn1_relay_core.proofs.translation.recode_of.Goals as goal

pub returns-in_err-value-clause-right : goal.returns-in_err-value-clause-right
returns-in_err-value-clause-right g c =
    let p = err_from_is_err_and c.from_residual.result c.from_residual.ensures.1 in
    rw p.1 (subst (λ f. IfSome (refusal_of f) (IsAnswer (rules_of c.args.from) (rules_of c.args.to)
    (g.M.MessageSchema.schema c.args.message_type.now 128) c.args.input.now)) (sym p.2) (c.in_err-value.ensures.only c.args.to))

pub returns-in_err-value-clause-exact : goal.returns-in_err-value-clause-exact
returns-in_err-value-clause-exact g c =
    let schema = g.M.MessageSchema.schema c.args.message_type.now in
    let p = err_from_is_err_and c.from_residual.result c.from_residual.ensures.1 in
    rw p.1 (only_one c.args.from c.args.to schema c.args.input.now (g.met.M.MessageType.lawful c.args.message_type.now) (refusal_of p.0)
    (subst (λ f. IfSome (refusal_of f) (IsAnswer (rules_of c.args.from) (rules_of c.args.to) (schema 128) c.args.input.now)) (sym p.2)
    (c.in_err-value.ensures.only c.args.to)))

pub returns-in_err-write-clause-right : goal.returns-in_err-write-clause-right
returns-in_err-write-clause-right g c =
    let schema = g.M.MessageSchema.schema c.args.message_type.now in
    let told = c.in_ok-value.ensures.ok in
    let valued = g.met.M.MessageType.valued c.args.message_type.now c.in_ok-value.value told.value told.means in
    let p = err_from_is_err_and c.from_residual-in_err-write.result c.from_residual-in_err-write.ensures.1 in
    let w = c.in_err-write.ensures.only.not_written told.value told.means in
    rw p.1 (right_not_written c.args.from c.args.to schema c.args.input.now told.value [] told.tells refl valued _ p.0 w p.2)

pub returns-in_err-write-clause-exact : goal.returns-in_err-write-clause-exact
returns-in_err-write-clause-exact g c =
    let schema = g.M.MessageSchema.schema c.args.message_type.now in
    let told = c.in_ok-value.ensures.ok in
    let valued = g.met.M.MessageType.valued c.args.message_type.now c.in_ok-value.value told.value told.means in
    let p = err_from_is_err_and c.from_residual-in_err-write.result c.from_residual-in_err-write.ensures.1 in
    let w = c.in_err-write.ensures.only.not_written told.value told.means in
    rw p.1 (only_one c.args.from c.args.to schema c.args.input.now (g.met.M.MessageType.lawful c.args.message_type.now) (refusal_of p.0)
    (right_not_written c.args.from c.args.to schema c.args.input.now told.value [] told.tells refl valued _ p.0 w p.2))

pub returns-clause-right : goal.returns-clause-right
returns-clause-right g c =
    let schema = g.M.MessageSchema.schema c.args.message_type.now in
    let told = c.in_ok-value.ensures.ok in
    let valued = g.met.M.MessageType.valued c.args.message_type.now c.in_ok-value.value told.value told.means in
    right_answered c.args.from c.args.to schema c.args.input.now told.value [] told.tells refl valued c.in_ok-write.field-0.items
    (c.in_ok-write.ensures.ok.written told.value told.means)

pub returns-clause-exact : goal.returns-clause-exact
returns-clause-exact g c =
    let schema = g.M.MessageSchema.schema c.args.message_type.now in
    let told = c.in_ok-value.ensures.ok in
    let valued = g.met.M.MessageType.valued c.args.message_type.now c.in_ok-value.value told.value told.means in
    only_one c.args.from c.args.to schema c.args.input.now (g.met.M.MessageType.lawful c.args.message_type.now) _
    (right_answered c.args.from c.args.to schema c.args.input.now told.value [] told.tells refl valued c.in_ok-write.field-0.items
    (c.in_ok-write.ensures.ok.written told.value told.means))
