use Rattle.std.proofs.Common.{◌+◌, ◌/◌, ◌∙◌, ap, sym, arith, max}
use Rattle.asn1_values_natives.specs.Octets.{signed_by, unsigned_octets_of}
use Rattle.asn1_values_natives.proofs.TwosComplement.{written-unsigned}
use Rattle.asn1_values_natives.proofs.bytes.IntegerBytes.unsigned.Goals as goal

pub last-requires : goal.last-requires
last-requires c = omega (arith, c.bit_count.ensures.bound)

pub returns : goal.returns
returns c =
    let e = c.max-count.ensures ∙ ap (λ w. max ((w + 7) / 8) 1) c.bit_count.ensures.value in
    c.last.ensures ∙ written-unsigned c.args.wide.magnitude c.max-count.result e ∙ ap (λ b. unsigned_octets_of (signed_by b c.args.wide.magnitude)) (sym c.if-wide.false)
