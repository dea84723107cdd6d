use Rattle.std.proofs.Common.{MatchResult, refl, subst}
use Rattle.std.specs.Box.{with_value}
use Rattle.per_codec_encoder.specs.declared.frame.Bag.{Bag}
use Rattle.per_codec_encoder.specs.Bags.{GoesOnInBag, NoFurther}
use Rattle.per_codec_encoder.proofs.Bagging.{member_of_bag_asked}
use Rattle.per_codec_encoder.proofs.Opening.{member_asked}
use Rattle.per_codec_rules.specs.Variants.{is_aligned}
use Rattle.per_codec_encoder.proofs.sequences.next_of_frame.Goals as goal

pub returns-in-Members : goal.returns-in-Members
returns-in-Members c = member_asked (is_aligned c.args.variant) _ c.in-Members.due c.args.output.now c.in-Members.is _ c.next_of_list.new.output
    c.next_of_list.new.due c.args.more c.next_of_list.result refl c.next_of_list.ensures

pub returns-in-Bag : goal.returns-in-Bag
returns-in-Bag c =
    let o = c.args.output.now in
    let more = c.args.more in
    let b = c.next_of_bag.new.bag in
    let p = c.next_of_bag.new.output in
    let r = c.next_of_bag.result in
    member_of_bag_asked (is_aligned c.args.variant) _ c.in-Bag.bag o c.in-Bag.is _ p (with_value c.in-Bag.bag b) more r refl
    (subst (λ (a : Bag). MatchResult r (λ _. GoesOnInBag more a o b p) (λ e. NoFurther more a o e)) c.deref_mut.ensures.value c.next_of_bag.ensures)
