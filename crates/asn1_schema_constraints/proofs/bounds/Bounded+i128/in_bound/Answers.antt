use Rattle.std.proofs.Common.{◌≡◌, ◌∙◌, sym, ap, rules}
use Rattle.asn1_schema_constraints.specs.Bounds.{admits_number}
use Rattle.asn1_schema_constraints.proofs.bounds.Bounded+i128.in_bound.Goals as goal

pub returns-in-Some : goal.returns-in-Some
returns-in-Some g c =
    let told : c.admits.result ≡ admits_number c.args.self.now c.in-Some.value = search rules in
    told ∙ ap (admits_number c.args.self.now) c.in-Some.ensures.number

pub returns-in-None : goal.returns-in-None
returns-in-None g c =
    let value = g.I.IntegerType.value c.args.element.now in
    c.admits_past.ensures value (sym c.in-None.ensures.fits) (sym c.is_negative.ensures.number)
