use Rattle.asn1_module_command.proofs.Typed.{of_types}
use Rattle.asn1_module_command.proofs.program.send_as.Goals as goal

pub returns : goal.returns
returns g c =
    of_types c.args.older.now c.args.newer.now c.args.route.now (g.R.Read.remaining c.args.input.now) (g.R.Read.remaining c.send.new.input)
    (g.W.Write.contents c.args.output.now) (g.W.Write.contents c.send.new.output) c.send.result c.send.ensures
