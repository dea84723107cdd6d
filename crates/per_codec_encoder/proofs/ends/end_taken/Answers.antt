use Rattle.std.proofs.Common.{subst, arith}
use Rattle.per_codec_encoder.specs.declared.frame.Frame.TheVariants.{Added, OpenType}
use Rattle.per_codec_encoder.specs.Holding.{AreSound}
use Rattle.per_codec_writing.proofs.HeadingFieldLists.{raised_on}
use Rattle.per_codec_encoder.proofs.Innermost.{around_is, ended_within, ended_unless_full}
use Rattle.per_codec_encoder.proofs.Bagging.{does_end_bag, cannot_end_bag}
use Rattle.per_codec_rules.specs.Variants.{is_aligned}
use Rattle.per_codec_encoder.proofs.ends.end_taken.Goals as goal

pub returns-in-Some-Added : goal.returns-in-Some-Added
returns-in-Some-Added c =
    let f = c.in-Some-Added in
    ended_within (is_aligned c.args.variant) c.args.frames.now c.close.new.self f.field-0 (Added f.additions) c.args.output.now
    c.end_additions.new.output f.ensures.items f.field-0-is c.end_additions.result c.end_additions.ensures

pub returns-in-Some-OpenType : goal.returns-in-Some-OpenType
returns-in-Some-OpenType c =
    let f = c.in-Some-OpenType in
    ended_unless_full (is_aligned c.args.variant) c.args.frames.now c.close.new.self f.field-0 (OpenType f.outer) c.args.output.now
    c.end_open_type.new.output f.ensures.items f.field-0-is c.end_open_type.result c.end_open_type.ensures

pub end_additions-requires : goal.end_additions-requires
end_additions-requires c =
    let f = c.in-Some-Added in
    (c.close.new.self, subst (λ l. AreSound l c.args.output.now) (around_is c.args.frames.now c.close.new.self f.field-0 (Added f.additions) f.ensures.items f.field-0-is) c.requires)

pub returns-in_err-end_bag-in-Some-Bag : goal.returns-in_err-end_bag-in-Some-Bag
returns-in_err-end_bag-in-Some-Bag c =
    let f = c.in-Some-Bag in
    let e = c.from_residual in
    raised_on _ _ _ e.result e.ensures.0 e.ensures.1 (cannot_end_bag (is_aligned c.args.variant) c.args.frames.now c.close.new.self f.field-0 f.boxed
    c.args.output.now f.ensures.items f.field-0-is c.into_inner-bag.result c.into_inner-bag.ensures (omega (arith, c.if-bag-gt0.false)) _ c.in_err-end_bag-in-Some-Bag.ensures)

pub returns-in_ok-end_bag-in-Some-Bag : goal.returns-in_ok-end_bag-in-Some-Bag
returns-in_ok-end_bag-in-Some-Bag c =
    let f = c.in-Some-Bag in
    does_end_bag (is_aligned c.args.variant) c.args.frames.now c.close.new.self f.field-0 f.boxed c.args.output.now f.ensures.items f.field-0-is
    c.into_inner-bag.result c.into_inner-bag.ensures (omega (arith, c.if-bag-gt0.false)) c.end_bag.new.output c.in_ok-end_bag-in-Some-Bag.ensures
