use Rattle.std.proofs.Common.{None, Some, ◌∙◌, map}
use Rattle.std.proofs.lemmas.Result.{IfOk-weaker}
use Rattle.clap.specs.Words.{found_of}
use Rattle.asn1_relay_command.proofs.OrderLemmas.{hops_rows}
use Rattle.asn1_relay_command.proofs.order.hops_in.Goals as goal

pub returns-in-Some : goal.returns-in-Some
returns-in-Some c =
    IfOk-weaker c.hops_named.result _ _ (λ hops e. e ∙ hops_rows (found_of c.args.options.now) (Some (map (λ s. s.now) c.in-Some.names.now)) c.in-Some.ensures) c.hops_named.ensures

pub returns-in-None : goal.returns-in-None
returns-in-None c = hops_rows (found_of c.args.options.now) None c.in-None.ensures
