use Rattle.std.proofs.Common.{ap, ◌∙◌, arith}
use Rattle.asn1_values_natives.specs.Octets.{signed_number, signed_by, plain}
use Rattle.asn1_values_natives.proofs.TwosComplement.{signed-read, plain-read, under, over}
use Rattle.asn1_values_natives.proofs.wide.Wide.from_signed_octets.Goals as goal

pub returns-then-digits-gt16-clause-fits : goal.returns-then-digits-gt16-clause-fits
returns-then-digits-gt16-clause-fits c =
    over c.has_sign-negative.result c.without_leading-digits.result.now (plain (signed_number c.args.octets.now)) c.without_leading-digits.ensures.fewest c.if-digits-gt16.true
    (plain-read c.args.octets.now c.without_leading-digits.result.now c.has_sign-negative.result c.type_inv.octets c.has_sign-negative.ensures c.without_leading-digits.ensures.same)

pub returns-clause-value : goal.returns-clause-value
returns-clause-value c =
    ap (signed_by c.has_sign-negative.result) c.magnitude.ensures.value
    ∙ signed-read c.args.octets.now c.without_leading-digits.result.now c.has_sign-negative.result c.type_inv.octets c.has_sign-negative.ensures c.without_leading-digits.ensures.same

pub returns-clause-fits : goal.returns-clause-fits
returns-clause-fits c =
    let e = c.magnitude.ensures.value ∙ plain-read c.args.octets.now c.without_leading-digits.result.now c.has_sign-negative.result c.type_inv.octets
    c.has_sign-negative.ensures c.without_leading-digits.ensures.same in
    under (plain (signed_number c.args.octets.now)) (omega (arith, e))
