use Rattle.std.proofs.Common.{◌≡◌, true, sym, subst, ◌∙◌}
use Rattle.asn1_notation_intervals.specs.Order.{begin_by}
use Rattle.asn1_notation_intervals.specs.Sets.{ascend}
use Rattle.asn1_notation_intervals.proofs.JoinLaws.{joins_apart, joins_reaching}
use Rattle.asn1_notation_intervals.proofs.joining.push_interval.Goals as goal

pub returns-in_ok-push-3-clause-ascending : goal.returns-in_ok-push-3-clause-ascending
returns-in_ok-push-3-clause-ascending c =
    let j = joins_apart c.pop.new.self.items c.in-Some.last c.args.next
    (subst (λ l. ascend l ≡ true) c.in-Some.ensures.items c.requires.ascending)
    (subst (λ l. begin_by l c.args.next.low ≡ true) c.in-Some.ensures.items c.requires.begin)
    c.requires.number (sym c.ends_before.ensures ∙ c.if-ends_before.true) in
    rw (c.in_ok-push-3.ensures.items, c.in_ok-push-2.ensures.items) j.ascending

pub returns-in_ok-push-4-clause-exact : goal.returns-in_ok-push-4-clause-exact
returns-in_ok-push-4-clause-exact c =
    let j = joins_reaching c.pop.new.self.items c.in-Some.last c.args.next
    (subst (λ l. ascend l ≡ true) c.in-Some.ensures.items c.requires.ascending)
    (subst (λ l. begin_by l c.args.next.low ≡ true) c.in-Some.ensures.items c.requires.begin)
    (sym c.ends_before.ensures ∙ c.if-ends_before.false) in
    λ z. rw (c.in_ok-push-4.ensures.items, c.reaching.ensures, c.in-Some.ensures.items) (j.exact z)

pub returns-in_ok-push-4-clause-ascending : goal.returns-in_ok-push-4-clause-ascending
returns-in_ok-push-4-clause-ascending c =
    let j = joins_reaching c.pop.new.self.items c.in-Some.last c.args.next
    (subst (λ l. ascend l ≡ true) c.in-Some.ensures.items c.requires.ascending)
    (subst (λ l. begin_by l c.args.next.low ≡ true) c.in-Some.ensures.items c.requires.begin)
    (sym c.ends_before.ensures ∙ c.if-ends_before.false) in
    rw (c.in_ok-push-4.ensures.items, c.reaching.ensures) j.ascending
