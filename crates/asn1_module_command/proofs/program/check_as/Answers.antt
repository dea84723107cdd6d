use Rattle.asn1_module_command.specs.Checks.{HasChecked, StopsChecking}
use Rattle.asn1_module_command.proofs.Typed.{of_type}
use Rattle.asn1_module_command.proofs.program.check_as.Goals as goal

pub returns : goal.returns
returns g c =
    let check = c.args.check in
    let unread = g.R.Read.remaining c.args.input.now in
    let unread' = g.R.Read.remaining c.check_message.new.input in
    let held = g.W.Write.contents c.args.output.now in
    let held' = g.W.Write.contents c.check_message.new.output in
    of_type c.args.table.now (λ s. HasChecked check s unread unread' held held') (λ e s. StopsChecking check s unread unread' held held' e)
    c.check_message.result c.check_message.ensures
