use Rattle.std.proofs.Common.{◌+◌, ◌/◌, ap, sym, ◌∙◌}
use Rattle.asn1_values_natives.proofs.Widths.{octet_width-width}
use Rattle.asn1_values_natives.proofs.octets.octet_width.Goals as goal

pub returns-clause-width : goal.returns-clause-width
returns-clause-width c = ap (λ w. (w + 7) / 8) c.bit_count.ensures.value ∙ sym (octet_width-width c.args.number)
