use mir.Syntax.{w128}
use mir.Val.{SFits}
use Rattle.std.proofs.Common.{rules, sym, ◌∙◌}
use Rattle.std.proofs.lemmas.Int.{to_z-of_z}
use Rattle.asn1_schema_constraints.specs.Bounds.{lower, upper}
use Rattle.per_codec_writing.specs.Writing.{place}
use Rattle.per_codec_writing.proofs.PaddingFieldLists.{adds_same}
use Rattle.per_codec_writing.proofs.NumberFieldLists.{did_same, between_at, from_at, up_to_at}
use Rattle.per_codec_rules.specs.Variants.{is_aligned}
use Rattle.per_codec_writing.proofs.integer.push_root.Goals as goal

pub returns-in-Some-Some : goal.returns-in-Some-Some
returns-in-Some-Some c =
    let old = c.args.output.now in
    let s = c.in-Some-Some in
    let number = c.ranges.number in
    let low : SFits w128 s.low = search rules in
    let high : SFits w128 s.high = search rules in
    let span = simp to_z-of_z at c.abs_diff.ensures in
    let offset = simp to_z-of_z at c.abs_diff-in-Some-Some.ensures in
    did_same c.push_constrained.result _ _ old c.push_constrained.new.output
    (between_at (is_aligned c.args.variant) (lower c.args.bounds) (upper c.args.bounds) s.low s.high c.args.number c.abs_diff.result
    c.abs_diff-in-Some-Some.result (place old) (s.ensures ∙ c.as_start.ensures) (s.ensures' ∙ c.as_end.ensures) c.requires span offset)
    c.push_constrained.ensures

pub returns-in_ok-push_semi_constrained-in-Some-None : goal.returns-in_ok-push_semi_constrained-in-Some-None
returns-in_ok-push_semi_constrained-in-Some-None c =
    let old = c.args.output.now in
    let s = c.in-Some-None in
    let number = c.ranges.number in
    let low : SFits w128 s.low = search rules in
    let offset = simp to_z-of_z at c.abs_diff-in-Some-None.ensures in
    adds_same _ _ old c.push_semi_constrained.new.output
    (from_at (is_aligned c.args.variant) (lower c.args.bounds) (upper c.args.bounds) s.low c.args.number c.abs_diff-in-Some-None.result (place old)
    (s.ensures ∙ c.as_start.ensures) (s.ensures' ∙ c.as_end.ensures) c.requires offset)
    c.in_ok-push_semi_constrained-in-Some-None.ensures

pub returns-in_ok-push_unconstrained-in-None-default : goal.returns-in_ok-push_unconstrained-in-None-default
returns-in_ok-push_unconstrained-in-None-default c =
    let old = c.args.output.now in
    let number = c.ranges.number in
    let added = simp to_z-of_z at c.in_ok-push_unconstrained-in-None-default.ensures.written in
    adds_same _ _ old c.push_unconstrained.new.output
    (up_to_at (is_aligned c.args.variant) (lower c.args.bounds) (upper c.args.bounds) c.args.number (place old) (sym c.in-None-default.is-0 ∙ c.copied.ensures ∙ c.as_start.ensures) c.requires)
    added
