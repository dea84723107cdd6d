use Rattle.std.proofs.Common.{None, Some, ◌∙◌, ap, codes, option_map, refl}
use Rattle.std.specs.Prelude.{option_and_then}
use Rattle.clap.specs.Words.{found_of, one_text}
use Rattle.asn1_relay_command.specs.Orders.{limit_by_text, task_of}
use Rattle.asn1_relay_command.proofs.OrderLemmas.{stream_rows}
use Rattle.asn1_relay_command.proofs.order.stream_in.Goals as goal

pub returns-in_err-translation-clause-task : goal.returns-in_err-translation-clause-task
returns-in_err-translation-clause-task c =
    let f = found_of c.args.options.now in
    ap (option_map task_of) c.from_residual.ensures ∙ stream_rows f None (option_and_then limit_by_text (one_text f (codes "limit"))) c.in_err-translation.ensures refl

pub returns-in_err-limit-clause-task : goal.returns-in_err-limit-clause-task
returns-in_err-limit-clause-task c = ap (option_map task_of) c.from_residual-in_err-limit.ensures ∙
    stream_rows (found_of c.args.options.now) (Some c.in_ok-translation.translation) None c.in_ok-translation.ensures c.in_err-limit.ensures.limit

pub returns-clause-task : goal.returns-clause-task
returns-clause-task c = stream_rows (found_of c.args.options.now) (Some c.in_ok-translation.translation) (Some c.in_ok-limit.limit) c.in_ok-translation.ensures c.in_ok-limit.ensures.limit
