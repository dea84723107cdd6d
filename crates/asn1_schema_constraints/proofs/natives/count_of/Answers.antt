use Rattle.std.proofs.Common.{◌∙◌, ap, ◌-ℤ◌, ◌-◌, ◌^◌}
use Rattle.asn1_model.specs.Numbers.{is_within}
use Rattle.asn1_values_natives.specs.Ranges.{whole_range}
use Rattle.asn1_values_natives.specs.Octets.{signed_by}
use Rattle.asn1_schema_constraints.proofs.Meets.{differ}
use Rattle.asn1_schema_constraints.proofs.ByNumber.{spread}
use Rattle.asn1_schema_constraints.proofs.natives.count_of.Goals as goal

pub returns-in_err-apart-clause-fits : goal.returns-in_err-apart-clause-fits
returns-in_err-apart-clause-fits g c =
    let t = g.met.T.NativeInteger in
    let number = g.T.NativeInteger.number in
    let held = spread g.T.NativeInteger.SIGNED g.T.NativeInteger.BITS g.T.NativeInteger.greatest (number c.args.low)
    (number c.args.high) t.short t.bounded t.width c.to_wide-2.ensures.held c.to_wide.ensures.held in
    differ (c.in_err-apart.ensures.fits ∙ ap (is_within (whole_range (2 ^ 128 - 1)))
    (ap (λ z. z -ℤ signed_by c.to_wide-2.result.negative c.to_wide-2.result.magnitude) c.to_wide.ensures.value ∙ ap (λ z. number c.args.high -ℤ z) c.to_wide-2.ensures.value) ∙ held)
