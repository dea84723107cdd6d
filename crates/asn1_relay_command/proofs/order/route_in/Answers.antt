use Rattle.std.proofs.Common.{◌∙◌, option_map}
use Rattle.clap.specs.Words.{found_of}
use Rattle.asn1_relay_command.proofs.OrderLemmas.{route_rows}
use Rattle.asn1_relay_command.proofs.order.route_in.Goals as goal

pub returns-clause-task : goal.returns-clause-task
returns-clause-task c = c.route_by.ensures.task ∙ route_rows (found_of c.args.options.now) (option_map (λ v. v.items) c.in_ok-hops.hops) c.in_ok-hops.ensures
