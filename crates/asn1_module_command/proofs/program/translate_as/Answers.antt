use Rattle.asn1_module_command.specs.Runs.{HasTranslated, StopsTranslating}
use Rattle.asn1_module_command.proofs.Typed.{of_type}
use Rattle.asn1_module_command.proofs.program.translate_as.Goals as goal

pub returns : goal.returns
returns g c =
    let t = c.args.translation in
    let unread = g.R.Read.remaining c.args.input.now in
    let unread' = g.R.Read.remaining c.translate.new.input in
    let held = g.W.Write.contents c.args.output.now in
    let held' = g.W.Write.contents c.translate.new.output in
    of_type c.args.table.now (λ s. HasTranslated t s unread unread' held held') (λ e s. StopsTranslating t s unread unread' held held' e)
    c.translate.result c.translate.ensures
