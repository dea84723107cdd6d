use Rattle.std.proofs.Common.{sym, refl, ◌∙◌}
use Rattle.asn1_schema_constraints.specs.Bounds.{counts_of, upper}
use Rattle.per_codec_writing.proofs.HeadingFieldLists.{narrow_heads, narrow_none, raised_on}
use Rattle.per_codec_rules.specs.Variants.{is_aligned}
use Rattle.per_codec_writing.proofs.headings.push_root_count.Goals as goal

pub returns-in_err-push_number-clause-heads : goal.returns-in_err-push_number-clause-heads
returns-in_err-push_number-clause-heads c =
    let e = c.from_residual-in_err-push_number in
    raised_on _ _ _ e.result e.ensures.0 e.ensures.1 (narrow_none (is_aligned c.args.variant) (counts_of c.args.root) (upper c.args.root)
    c.args.has_padding c.args.count c.in-Some.high c.minimum.result c.args.output.now (sym c.highest_below_64k.ensures.highest ∙ c.in-Some.is) c.minimum.ensures _ c.in_err-push_number.ensures)

pub returns-clause-heads : goal.returns-clause-heads
returns-clause-heads c = narrow_heads (is_aligned c.args.variant) (counts_of c.args.root) (upper c.args.root) c.args.has_padding c.args.count
    c.in-Some.high c.minimum.result _ c.args.output.now c.push_number.new.output (sym c.highest_below_64k.ensures.highest ∙ c.in-Some.is) c.minimum.ensures refl c.in_ok-push_number.ensures
