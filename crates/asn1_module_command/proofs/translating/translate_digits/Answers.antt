use Rattle.asn1_module_command.proofs.Digits.{taken}
use Rattle.asn1_module_command.specs.Runs.{LeavesDigits, StopsLeaving, schema_in}
use Rattle.asn1_module_command.proofs.translating.translate_digits.Goals as goal

pub returns : goal.returns
returns g c =
    let t = c.args.translation in
    let s = schema_in c.args.typed.table.now in
    taken (LeavesDigits t.extent s t.to t.from) (StopsLeaving t.extent s t.to t.from) c.as_slice.result.now c.in_ok-octets.octets.items
    (g.R.Read.remaining c.args.input.now) (g.R.Read.remaining c.read_message.new.input) _ (g.W.Write.contents c.args.output.now)
    (g.W.Write.contents c.translate_to_digits.new.output) c.as_slice.ensures.value c.in_ok-octets.ensures.ok c.translate_to_digits.result
    c.translate_to_digits.ensures
