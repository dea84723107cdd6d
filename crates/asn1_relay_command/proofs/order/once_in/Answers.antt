use Rattle.std.proofs.Common.{None, Some, ◌∙◌, ap, option_map}
use Rattle.asn1_relay_command.specs.Orders.{task_of}
use Rattle.clap.specs.Words.{found_of}
use Rattle.asn1_relay_command.proofs.OrderLemmas.{once_rows}
use Rattle.asn1_relay_command.proofs.order.once_in.Goals as goal

pub returns-in_err-translation-clause-task : goal.returns-in_err-translation-clause-task
returns-in_err-translation-clause-task c = ap (option_map task_of) c.from_residual.ensures ∙ once_rows (found_of c.args.options.now) None c.in_err-translation.ensures

pub returns-clause-task : goal.returns-clause-task
returns-clause-task c = once_rows (found_of c.args.options.now) (Some c.in_ok-translation.translation) c.in_ok-translation.ensures
