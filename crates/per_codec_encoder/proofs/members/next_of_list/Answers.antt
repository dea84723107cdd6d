use Rattle.std.proofs.Common.{refl}
use Rattle.per_codec_encoder.proofs.Opening.{due_comes, comes_next, none_next}
use Rattle.per_codec_rules.specs.Variants.{is_aligned}
use Rattle.per_codec_encoder.proofs.members.next_of_list.Goals as goal

pub returns-then-due-gt0 : goal.returns-then-due-gt0
returns-then-due-gt0 c = due_comes (is_aligned c.args.variant) c.args.more c.args.due.now _ c.args.output.now c.if-more.true c.if-due-gt0.true refl refl

pub returns-then-more-next : goal.returns-then-more-next
returns-then-more-next c = none_next (is_aligned c.args.variant) c.args.due.now c.in_ok-next.next c.args.output.now
    c.push_next_length_determinant.new.output c.in_ok-next.ensures c.args.more c.if-more-next.true

pub returns : goal.returns
returns c = comes_next (is_aligned c.args.variant) c.args.due.now c.in_ok-next.next c.args.output.now c.push_next_length_determinant.new.output
    c.in_ok-next.ensures c.from.result c.args.more c.if-more-next.false c.from.ensures
