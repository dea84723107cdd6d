use Rattle.std.proofs.Common.{sym, ◌∙◌, not, ap, ◌∷◌, []}
use Rattle.std.proofs.lemmas.Int.{to_z-of_z}
use Rattle.asn1_model.specs.Per
use Rattle.asn1_schema_constraints.specs.Bounds.{admits_number, lower, upper}
use Rattle.per_codec_packing.specs.FieldLists.{as_field_list}
use Rattle.per_codec_writing.specs.Writing.{place, plus}
use Rattle.per_codec_writing.proofs.NumberFieldLists.{did_same}
use Rattle.per_codec_writing.proofs.BoundedFieldLists.{inextensible_field_list, inextensible_none, did_inside, adds_outside}
use Rattle.per_codec_rules.specs.Variants.{is_aligned}
use Rattle.per_codec_writing.proofs.integer.push_bounded.Goals as goal

pub returns-then-not-inside : goal.returns-then-not-inside
returns-then-not-inside c =
    let number = c.ranges.number in
    let within = simp to_z-of_z at c.contains-inside.ensures in
    inextensible_none (Per.whole_number (is_aligned c.args.variant) (lower c.args.bounds) (upper c.args.bounds) c.args.number)
    (Per.unconstrained (is_aligned c.args.variant) c.args.number) c.args.extensible _ (place c.args.output.now) c.if-not-extensible.true (sym within ∙ c.if-not-inside.true)

pub returns-then-not-extensible : goal.returns-then-not-extensible
returns-then-not-extensible c =
    let old = c.args.output.now in
    let number = c.ranges.number in
    let within = simp to_z-of_z at c.contains-inside.ensures in
    let done = simp to_z-of_z at c.push_root.ensures in
    did_same c.push_root.result _ _ old c.push_root.new.output
    (inextensible_field_list (Per.whole_number (is_aligned c.args.variant) (lower c.args.bounds) (upper c.args.bounds) c.args.number)
    (Per.unconstrained (is_aligned c.args.variant) c.args.number) c.args.extensible _ (place old) c.if-not-extensible.true (sym within ∙ c.if-not-inside.false))
    done

pub returns-then-inside : goal.returns-then-inside
returns-then-inside c =
    let old = c.args.output.now in
    let number = c.ranges.number in
    let within = simp to_z-of_z at c.contains-inside.ensures in
    let done = simp to_z-of_z at c.push_root-then-inside.ensures in
    did_inside (Per.whole_number (is_aligned c.args.variant) (lower c.args.bounds) (upper c.args.bounds) c.args.number)
    (Per.unconstrained (is_aligned c.args.variant) c.args.number) c.push_root-then-inside.result c.args.extensible
    (admits_number c.args.bounds c.args.number) old c.push.new.self c.push_root-then-inside.new.output c.if-not-extensible.false (sym within ∙ c.if-inside.true)
    (c.in_ok-push.ensures.ok ∙ ap (λ b. plus old (as_field_list (not b ∷ []))) within)
    done

pub returns-in_ok-push_unconstrained : goal.returns-in_ok-push_unconstrained
returns-in_ok-push_unconstrained c =
    let old = c.args.output.now in
    let number = c.ranges.number in
    let within = simp to_z-of_z at c.contains-inside.ensures in
    let added = simp to_z-of_z at c.in_ok-push_unconstrained.ensures.written in
    adds_outside (Per.whole_number (is_aligned c.args.variant) (lower c.args.bounds) (upper c.args.bounds) c.args.number)
    (Per.unconstrained (is_aligned c.args.variant) c.args.number) c.args.extensible (admits_number c.args.bounds c.args.number) old
    c.push.new.self c.push_unconstrained.new.output c.if-not-extensible.false (sym within ∙ c.if-inside.false)
    (c.in_ok-push.ensures.ok ∙ ap (λ b. plus old (as_field_list (not b ∷ []))) within)
    added
