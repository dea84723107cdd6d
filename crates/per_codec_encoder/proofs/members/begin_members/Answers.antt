use Rattle.std.proofs.Common.{sym, ◌∙◌}
use Rattle.asn1_schema_constraints.specs.Bounds.{members_of}
use Rattle.asn1_schema_constraints.specs.Terms.{size_of}
use Rattle.asn1_schema_errors.specs.declared.EncodeError.TheVariants.{SizeConstraintNotSatisfied}
use Rattle.per_codec_writing.proofs.HeadingFieldLists.{raised_on}
use Rattle.per_codec_encoder.proofs.Opening.{held_heads, held_none, not_held, does_begin_members, cannot_begin}
use Rattle.per_codec_rules.specs.Variants.{is_aligned}
use Rattle.per_codec_encoder.proofs.members.begin_members.Goals as goal

pub returns-then-not-holds : goal.returns-then-not-holds
returns-then-not-holds c =
    let z = size_of c.args.sizes in
    let h = members_of c.args.held in
    cannot_begin (is_aligned c.args.variant) c.args.frames.now c.args.output.now z h c.args.count SizeConstraintNotSatisfied
    (not_held (is_aligned c.args.variant) c.args.output.now z h c.args.count (sym c.holds.ensures ∙ c.if-not-holds.true))

pub returns-in_err-due : goal.returns-in_err-due
returns-in_err-due c =
    let z = size_of c.args.sizes in
    let h = members_of c.args.held in
    raised_on _ _ _ c.from_residual.result c.from_residual.ensures.0 c.from_residual.ensures.1
    (cannot_begin (is_aligned c.args.variant) c.args.frames.now c.args.output.now z h c.args.count _
    (held_none (is_aligned c.args.variant) c.args.output.now z h c.args.count _ c.in_err-due.ensures.heads))

pub returns : goal.returns
returns c =
    let z = size_of c.args.sizes in
    let h = members_of c.args.held in
    does_begin_members (is_aligned c.args.variant) c.args.frames.now c.open.new.self c.args.output.now c.push_heading.new.output z h c.args.count c.in_ok-due.due
    (held_heads (is_aligned c.args.variant) c.args.output.now c.push_heading.new.output z h c.args.count c.in_ok-due.due
    (sym c.holds.ensures ∙ c.if-not-holds.false) c.in_ok-due.ensures.heads) c.in_ok-open.ensures.items
