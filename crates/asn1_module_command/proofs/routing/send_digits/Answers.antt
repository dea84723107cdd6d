use Rattle.asn1_table_relay.specs.Schemas.{newer_of, older_of}
use Rattle.asn1_module_command.proofs.Digits.{answered_in_digits}
use Rattle.asn1_module_command.proofs.routing.send_digits.Goals as goal

pub returns : goal.returns
returns g c =
    answered_in_digits (older_of c.args.versions.now 128) (newer_of c.args.versions.now 128) c.args.from c.args.hops.now c.as_slice.result.now
    c.in_ok-message.message.items c.as_slice-2.result.now c.in_ok-answer.answer.items (g.R.Read.remaining c.args.input.now)
    (g.R.Read.remaining c.read_message.new.input) (g.W.Write.contents c.args.output.now) (g.W.Write.contents c.write_digits.new.output)
    c.as_slice.ensures.value c.as_slice-2.ensures.value c.in_ok-message.ensures.ok c.in_ok-answer.ensures c.write_digits.result c.write_digits.ensures
