use Rattle.asn1_module_command.proofs.Files.{stopped}
use Rattle.asn1_module_command.proofs.program.module_command.Goals as goal

pub returns-clause-done : goal.returns-clause-done
returns-clause-done g c = λ zero. record { order = c.in-Ok.order; asks = c.in-Ok.ensures.ok; holds = c.obey_from.ensures.done zero }

pub returns-clause-failed : goal.returns-clause-failed
returns-clause-failed g c = λ one.
    stopped _ c.in-Ok.order (g.R.Read.remaining c.args.input.now) (g.R.Read.remaining c.obey_from.new.input) (g.W.Write.contents c.args.output.now)
    (g.W.Write.contents c.obey_from.new.output) c.in-Ok.ensures.ok (c.obey_from.ensures.failed one)
