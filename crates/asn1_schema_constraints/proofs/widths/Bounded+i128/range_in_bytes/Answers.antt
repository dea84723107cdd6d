use Rattle.std.proofs.Common.{◌≡◌, ◌∙◌, ap, sym, cond, rules}
use Rattle.asn1_model.specs.Oer.{signed_form, natural_form}
use Rattle.asn1_schema_constraints.specs.Bounds.{lower, upper}
use Rattle.asn1_schema_constraints.specs.Widths.{has_sign, fixed_width}
use Rattle.asn1_schema_constraints.proofs.WidthLaws.{form_told}
use Rattle.asn1_schema_constraints.proofs.widths.Bounded+i128.range_in_bytes.Goals as goal

pub returns-clause-form : goal.returns-clause-form
returns-clause-form c =
    let low = lower c.args.self.now in
    let high = upper c.args.self.now in
    let sign : c.may_be_negative.result ≡ has_sign low = search rules in
    let width : c.octets_of_range.result ≡ fixed_width low high = search rules in
    λ v. form_told low high v
    ∙ (ap (λ s. cond s (signed_form (fixed_width low high) v) (natural_form (fixed_width low high) v)) (sym sign)
    ∙ ap (λ w. cond c.may_be_negative.result (signed_form w v) (natural_form w v)) (sym width))
