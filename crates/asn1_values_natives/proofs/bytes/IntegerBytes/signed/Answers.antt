use Rattle.std.proofs.Common.{◌+◌, ◌/◌, ◌∙◌, ap, arith}
use Rattle.asn1_values_natives.proofs.TwosComplement.{written-signed}
use Rattle.asn1_values_natives.proofs.bytes.IntegerBytes.signed.Goals as goal

pub last-requires : goal.last-requires
last-requires c = omega (arith, c.bit_count.ensures.bound)

pub returns : goal.returns
returns c = c.last.ensures ∙ written-signed c.args.wide.negative c.args.wide.magnitude (c.bit_count.result / 8 + 1) (ap (λ x. x / 8 + 1) c.bit_count.ensures.value)
