use Rattle.std.proofs.Common.{◌∙◌, codes, arith}
use Rattle.clap.specs.Words.{found_of, one_text}
use Rattle.std.specs.Str.Parse.{ParsesUnsigned, ExplainsUnsignedError, HasUnsignedDigitsIfOk}
use Rattle.asn1_relay_command.proofs.OrderLemmas.{limit_given, limit_missing, limit_too_small}
use Rattle.asn1_relay_command.proofs.order.limit_in.Goals as goal

pub returns-in_err-limit-clause-limit : goal.returns-in_err-limit-clause-limit
returns-in_err-limit-clause-limit c =
    c.from_residual.ensures ∙ limit_missing (λ bs r. ParsesUnsigned 32 10 bs r × ExplainsUnsignedError 10 bs r × HasUnsignedDigitsIfOk bs r) (λ u x g. g.0)
    (one_text (found_of c.args.options.now) (codes "limit")) c.get_one.result c.get_one.ensures.none c.get_one.ensures.value c.in_err-limit.was

pub returns-then-limit-ge1-clause-limit : goal.returns-then-limit-ge1-clause-limit
returns-then-limit-ge1-clause-limit c =
    limit_given (λ bs r. ParsesUnsigned 32 10 bs r × ExplainsUnsignedError 10 bs r × HasUnsignedDigitsIfOk bs r) (λ u x g. g.0)
    (one_text (found_of c.args.options.now) (codes "limit")) c.get_one.result c.get_one.ensures.none c.get_one.ensures.value c.in_ok-limit.limit (omega arith) c.in_ok-limit.was

pub returns-else-limit-ge1-clause-limit : goal.returns-else-limit-ge1-clause-limit
returns-else-limit-ge1-clause-limit c =
    limit_too_small (λ bs r. ParsesUnsigned 32 10 bs r × ExplainsUnsignedError 10 bs r × HasUnsignedDigitsIfOk bs r) (λ u x g. g.0)
    (one_text (found_of c.args.options.now) (codes "limit")) c.get_one.result c.get_one.ensures.none c.get_one.ensures.value c.in_ok-limit.limit (omega arith) c.in_ok-limit.was
