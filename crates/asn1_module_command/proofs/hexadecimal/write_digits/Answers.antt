use Rattle.asn1_module_command.proofs.Digits.{line_cut_off}
use Rattle.asn1_module_command.proofs.hexadecimal.write_digits.Goals as goal

pub returns-in_err-write_all : goal.returns-in_err-write_all
returns-in_err-write_all g c =
    line_cut_off c.from_residual-in_err-write_all.result _ c.in_err-write_all.field-0.0 (g.W.Write.contents c.args.output.now) (g.W.Write.contents c.write_all.new.output)
    c.as_slice.result.now c.in_ok-line.line.items c.args.octets.now c.from_residual-in_err-write_all.ensures.1 c.in_err-write_all.ensures.err
    c.as_slice.ensures.value c.in_ok-line.ensures c.in_err-write_all.ensures.begins
