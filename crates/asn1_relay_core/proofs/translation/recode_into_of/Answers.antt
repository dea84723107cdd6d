use Rattle.std.proofs.Common.{refl, subst, sym, [], IfSome}
use Rattle.std.proofs.lemmas.Result.{err_from_is_err_and}
use Rattle.asn1_relay_core.specs.Coding.{rules_of}
use Rattle.asn1_relay_core.specs.Recoding.{IsAnswer, refusal_of}
use Rattle.asn1_relay_core.proofs.Coded.{right_answered, right_not_written}
use Rattle.asn1_relay_core.proofs.translation.recode_into_of.Goals as goal

pub returns-in_err-value-clause-only : goal.returns-in_err-value-clause-only
returns-in_err-value-clause-only g c =
    let p = err_from_is_err_and c.from_residual.result c.from_residual.ensures.1 in
    rw p.1 (subst (λ f. IfSome (refusal_of f) (IsAnswer (rules_of c.args.from) (rules_of c.args.to)
    (g.M.MessageSchema.schema c.args.message_type.now 128) c.args.input.now)) (sym p.2) (c.in_err-value.ensures.only c.args.to))

pub returns-in_err-write_into-clause-only : goal.returns-in_err-write_into-clause-only
returns-in_err-write_into-clause-only g c =
    let schema = g.M.MessageSchema.schema c.args.message_type.now in
    let told = c.in_ok-value.ensures.ok in
    let valued = g.met.M.MessageType.valued c.args.message_type.now c.in_ok-value.value told.value told.means in
    let p = err_from_is_err_and c.from_residual-in_err-write_into.result c.from_residual-in_err-write_into.ensures.1 in
    let w = c.in_err-write_into.ensures.only.not_written told.value told.means in
    rw p.1 (right_not_written c.args.from c.args.to schema c.args.input.now told.value [] told.tells refl valued _ p.0 w p.2)

pub returns-clause-right : goal.returns-clause-right
returns-clause-right g c =
    let schema = g.M.MessageSchema.schema c.args.message_type.now in
    let told = c.in_ok-value.ensures.ok in
    let valued = g.met.M.MessageType.valued c.args.message_type.now c.in_ok-value.value told.value told.means in
    let added = c.in_ok-write_into.ensures.ok in (
      added.0,
      added.2,
      right_answered c.args.from c.args.to schema c.args.input.now told.value [] told.tells refl valued added.0
          (added.1.written told.value told.means),
    )
