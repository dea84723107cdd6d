use Rattle.std.proofs.Common.{sym, subst}
use Rattle.std.proofs.lemmas.Result.{err_from_is_err_and}
use Rattle.asn1_relay_core.proofs.Coded.{right_not_read, right_surplus, none_left, some_left, source_names_none}
use Rattle.asn1_relay_core.proofs.Coded.{source_names_no_call, source_names_no_size}
use Rattle.asn1_relay_core.specs.Coding.{rules_of}
use Rattle.asn1_relay_core.specs.MessageTypes.{TellsAs}
use Rattle.asn1_relay_core.proofs.translation.read_alone.Goals as goal

pub returns-in_err-value-clause-only : goal.returns-in_err-value-clause-only
returns-in_err-value-clause-only g c =
    let schema = g.M.MessageSchema.schema c.args.message_type.now in
    let p = err_from_is_err_and c.from_residual.result c.from_residual.ensures.1 in
    rw p.1 (λ to. right_not_read c.args.from to schema c.args.input.now _ p.0 c.in_err-value.ensures.only p.2)

pub returns-then-not-is_empty-clause-only : goal.returns-then-not-is_empty-clause-only
returns-then-not-is_empty-clause-only g c = λ to.
    let told = c.in_ok-value.ensures.ok in
    right_surplus c.args.from to (g.M.MessageSchema.schema c.args.message_type.now) c.args.input.now told.value c.in_ok-value.rest.now told.tells
    (some_left _ (sym c.if-not-is_empty.ensures))

pub returns-clause-ok : goal.returns-clause-ok
returns-clause-ok g c =
    subst (λ l. TellsAs (rules_of c.args.from) (g.M.MessageSchema.schema c.args.message_type.now)
    (g.M.MessageType.means c.args.message_type.now c.in_ok-value.value) c.args.input.now l) (none_left _ (sym c.if-not-is_empty.ensures)) c.in_ok-value.ensures.ok

pub returns-in_err-value-clause-fresh : goal.returns-in_err-value-clause-fresh
returns-in_err-value-clause-fresh g c =
    let p = err_from_is_err_and c.from_residual.result c.from_residual.ensures.1 in
    rw p.1 (source_names_none _ p.0 p.2 c.in_err-value.ensures.fresh)

pub returns-in_err-value-clause-in_place : goal.returns-in_err-value-clause-in_place
returns-in_err-value-clause-in_place g c =
    let p = err_from_is_err_and c.from_residual.result c.from_residual.ensures.1 in
    rw p.1 (source_names_no_call _ p.0 p.2)

pub returns-in_err-value-clause-fits : goal.returns-in_err-value-clause-fits
returns-in_err-value-clause-fits g c =
    let p = err_from_is_err_and c.from_residual.result c.from_residual.ensures.1 in
    rw p.1 (source_names_no_size _ p.0 p.2)
