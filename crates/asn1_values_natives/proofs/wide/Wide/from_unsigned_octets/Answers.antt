use Rattle.std.proofs.Common.{ap, ◌∙◌, arith, pos, false}
use Rattle.asn1_values_natives.specs.Octets.{unsigned_number}
use Rattle.asn1_values_natives.proofs.OctetLaws.{sign_free-false}
use Rattle.asn1_values_natives.proofs.TwosComplement.{under, over}
use Rattle.asn1_values_natives.proofs.wide.Wide.from_unsigned_octets.Goals as goal

pub returns-then-digits-gt16-clause-fits : goal.returns-then-digits-gt16-clause-fits
returns-then-digits-gt16-clause-fits c =
    over false c.without_leading-digits.result.now (unsigned_number c.args.octets.now) c.without_leading-digits.ensures.fewest c.if-digits-gt16.true
    (c.without_leading-digits.ensures.same ∙ ap unsigned_number (sign_free-false c.args.octets.now))

pub returns-clause-value : goal.returns-clause-value
returns-clause-value c =
    ap pos (c.magnitude.ensures.value ∙ c.without_leading-digits.ensures.same ∙ ap unsigned_number (sign_free-false c.args.octets.now))

pub returns-clause-fits : goal.returns-clause-fits
returns-clause-fits c =
    let e = c.magnitude.ensures.value ∙ c.without_leading-digits.ensures.same ∙ ap unsigned_number (sign_free-false c.args.octets.now) in
    under (unsigned_number c.args.octets.now) (omega (arith, e))
