use mir.Syntax.{w128}
use mir.Val.{SFits}
use Rattle.std.proofs.Common.{◌≡◌, ◌-◌, ◌^◌, Option, None, true, is_some, rules, ap, subst, sym, ◌∙◌}
use Rattle.std.proofs.lemmas.Int.{to_z-of_z}
use Rattle.asn1_model.specs.Numbers.{is_within}
use Rattle.asn1_model.specs.Per
use Rattle.asn1_model.specs.Schema.{integer}
use Rattle.asn1_model.specs.Value.{number as number_value}
use Rattle.asn1_schema_constraints.specs.Bounds.{admits_number, lower, upper}
use Rattle.asn1_schema_constraints.specs.Terms.{bounds_of, held_of}
use Rattle.asn1_schema_constraints.specs.declared.extensions.Extensible.{Extensible}
use Rattle.asn1_schema_constraints.specs.declared.parts.Value.{Value}
use Rattle.asn1_values_natives.specs.Ranges.{whole_range}
use Rattle.per_codec_packing.specs.FieldLists.{field_list_at}
use Rattle.per_codec_writing.specs.Writing.{Adds, place}
use Rattle.per_codec_writing.proofs.PaddingFieldLists.{adds_same}
use Rattle.per_codec_writing.proofs.NumberFieldLists.{Did, did_same}
use Rattle.per_codec_writing.proofs.BoundedFieldLists.{unbounded_field_list, bounded_field_list, wide_none}
use Rattle.per_codec_rules.specs.Variants.{is_aligned}
use Rattle.per_codec_writing.proofs.integer.push_integer.Goals as goal

pub returns-in_default : goal.returns-in_default
returns-in_default g c =
    let v = g.I.IntegerType.value c.args.value.now in
    let h = g.I.IntegerType.held in
    let old = c.args.output.now in
    let new = c.push_unconstrained.new.output in
    subst (λ (o : Option (Extensible Value)).
    Adds (field_list_at (Per.form (is_aligned c.args.variant) (integer (bounds_of o) (held_of o h)) (number_value v)) (place old)) old new) (sym c.in_default.is)
    (adds_same _ _ old new (unbounded_field_list (is_aligned c.args.variant) h v (place old) c.push_unconstrained.ensures.held) c.in_ok-push_unconstrained.ensures.written)

pub returns-in_default-to_i128 : goal.returns-in_default-to_i128
returns-in_default-to_i128 g c =
    let v = g.I.IntegerType.value c.args.value.now in
    let h = g.I.IntegerType.held in
    let al = (is_aligned c.args.variant) in
    let old = c.args.output.now in
    subst (λ (o : Option (Extensible Value)). field_list_at (Per.form al (integer (bounds_of o) (held_of o h)) (number_value v)) (place old) ≡ None) (sym c.in-Some.is)
    (wide_none al c.in-Some.limits h v (place old) (sym c.in_default-to_i128.ensures.fits))

pub returns : goal.returns
returns g c =
    let v = g.I.IntegerType.value c.args.value.now in
    let h = g.I.IntegerType.held in
    let al = (is_aligned c.args.variant) in
    let old = c.args.output.now in
    let new = c.push_bounded.new.output in
    let limits = c.in-Some.limits in
    let bounds = limits.constraint.value in
    let z = c.in-Some-to_i128.number in
    let number : SFits w128 z = search rules in
    let same : z ≡ v = c.in-Some-to_i128.ensures.number in
    let wide : is_within (whole_range (2 ^ 127 - 1)) v ≡ true = sym c.in-Some-to_i128.ensures.fits in
    let done = simp to_z-of_z at c.push_bounded.ensures in
    subst (λ (o : Option (Extensible Value)). Did c.push_bounded.result (field_list_at (Per.form al (integer (bounds_of o) (held_of o h)) (number_value v)) (place old)) old new) (sym c.in-Some.is)
    (did_same c.push_bounded.result _ _ old new
    (bounded_field_list al limits h v (place old) c.in-Some-to_i128.ensures.within wide
    ∙ ap (λ y. field_list_at (Per.with_extension_bit (is_some limits.extensible) (admits_number bounds y)
    (Per.whole_number al (lower bounds) (upper bounds) y) (Per.unconstrained al y)) (place old)) (sym same)
    ∙ ap (λ b. field_list_at (Per.with_extension_bit b (admits_number bounds z) (Per.whole_number al (lower bounds) (upper bounds) z) (Per.unconstrained al z)) (place old)) (sym c.is_some.ensures))
    done)
