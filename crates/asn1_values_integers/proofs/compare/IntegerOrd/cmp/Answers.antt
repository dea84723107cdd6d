use Rattle.std.proofs.Common.{◌∙◌, ap, int_cmp}
use Rattle.asn1_values_natives.specs.Octets.{signed_number}
use Rattle.asn1_values_integers.proofs.Orders.{written-again, written-number}
use Rattle.asn1_values_integers.proofs.compare.IntegerOrd.cmp.Goals as goal

pub compare_octets-requires-clause-left : goal.compare_octets-requires-clause-left
compare_octets-requires-clause-left c = written-again c.args.self.now c.as_slice.result.now (c.as_slice.ensures ∙ c.to_signed_bytes_be-left.ensures)

pub compare_octets-requires-clause-right : goal.compare_octets-requires-clause-right
compare_octets-requires-clause-right c = written-again c.args.other.now c.as_slice-in_default.result.now (c.as_slice-in_default.ensures ∙ c.to_signed_bytes_be-right.ensures)

pub returns-in_default : goal.returns-in_default
returns-in_default c =
    let l = written-number c.args.self.now c.as_slice.result.now (c.as_slice.ensures ∙ c.to_signed_bytes_be-left.ensures) in
    let r = written-number c.args.other.now c.as_slice-in_default.result.now (c.as_slice-in_default.ensures ∙ c.to_signed_bytes_be-right.ensures) in
    c.compare_octets.ensures ∙ ap (λ z. int_cmp z (signed_number c.as_slice-in_default.result.now)) l ∙ ap (int_cmp c.args.self.now) r
