use Rattle.std.proofs.Common.{ap, arith, sym, ◌∙◌}
use Rattle.asn1_model.specs.Numbers.{is_count_within}
use Rattle.asn1_schema_constraints.specs.Bounds.{counts_of}
use Rattle.asn1_schema_constraints.specs.Terms.{size_of}
use Rattle.per_codec_writing.specs.Writing.{place}
use Rattle.per_codec_writing.proofs.HeadingFieldLists.{no_field_list, raised_on}
use Rattle.per_codec_writing.proofs.HeadingForms.{held_added, held_none, members_counted, not_held, size_added, size_none}
use Rattle.per_codec_rules.specs.Variants.{is_aligned}
use Rattle.per_codec_writing.proofs.sized.push_sized.Goals as goal

pub returns-then-not-holds : goal.returns-then-not-holds
returns-then-not-holds g c =
    let held = c.holds.ensures ∙ members_counted c.args.held c.count-count.result (omega (arith, c.count-count.type_inv)) ∙ ap (is_count_within (counts_of c.args.held)) c.count-count.ensures in
    not_held (is_aligned c.args.variant) (size_of c.args.sizes) (counts_of c.args.held) c.args.has_padding (g.U.Units.forms c.args.units.now) (place c.args.output.now) (sym held ∙ c.if-not-holds.true)

pub returns-in_err-due : goal.returns-in_err-due
returns-in_err-due g c =
    let e = c.from_residual in
    let al = is_aligned c.args.variant in
    let z = size_of c.args.sizes in
    let us = g.U.Units.forms c.args.units.now in
    let p = place c.args.output.now in
    raised_on _ _ _ e.result e.ensures.0 e.ensures.1
    (no_field_list _ _ (λ n. held_none al z (counts_of c.args.held) c.args.has_padding us p
    (size_none al z c.args.has_padding us c.count-count.result p c.count-count.ensures n)) _ c.in_err-due.ensures.heads)

pub returns : goal.returns
returns g c =
    let held = c.holds.ensures ∙ members_counted c.args.held c.count-count.result (omega (arith, c.count-count.type_inv)) ∙ ap (is_count_within (counts_of c.args.held)) c.count-count.ensures in
    let al = is_aligned c.args.variant in
    let z = size_of c.args.sizes in
    let us = g.U.Units.forms c.args.units.now in
    let old = c.args.output.now in
    let new = c.push_due.new.output in
    held_added al z (counts_of c.args.held) c.args.has_padding us old new (sym held ∙ c.if-not-holds.false)
    (size_added al z c.args.has_padding us c.count-count.result c.in_ok-due.due old c.push_heading.new.output new c.count-count.ensures c.in_ok-due.ensures.heads c.in_ok-push_due.ensures)
