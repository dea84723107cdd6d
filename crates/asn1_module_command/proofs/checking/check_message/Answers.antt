use Rattle.asn1_module_command.specs.Runs.{schema_in}
use Rattle.asn1_module_command.proofs.Checked.{checked}
use Rattle.asn1_module_command.proofs.checking.check_message.Goals as goal

pub returns : goal.returns
returns g c =
    checked (schema_in c.args.table.now) c.args.check c.as_slice.result.now c.in_ok-message.message.items (g.R.Read.remaining c.args.input.now)
    (g.R.Read.remaining c.read_message.new.input) (g.W.Write.contents c.args.output.now) (g.W.Write.contents c.say_canonical.new.output)
    c.as_slice.ensures.value c.in_ok-message.ensures.ok c.say_canonical.result c.say_canonical.ensures
