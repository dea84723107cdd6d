use Rattle.std.proofs.Common.{◌≡◌, ◌+◌, [], ◌∷◌, ◌++◌, map, ap, sym, subst, ◌∙◌}
use Rattle.asn1_notation_intervals.specs.Sets.{is_in}
use Rattle.asn1_notation_constraints.specs.declared.constraints.Visible.{Visible}
use Rattle.asn1_notation_constraints.specs.Constraints.{admits, sight, sight_of}
use Rattle.asn1_notation_constraints.proofs.Turns.{AreSeen, seen_more}
use Rattle.asn1_notation_constraints.proofs.constraints.visible_parts.Goals as goal

pub loop-index-preserved : goal.loop-index-preserved
loop-index-preserved c =
    let terms = c.args.terms.now in
    let k = c.loop-index.index in
    let t = c.index-terms-index.result in
    let parts = c.loop-index.parts.items in
    let pushed : c.push.new.self.items ≡ parts ++ c.in_ok-part.part ∷ [] = c.in_ok-push.ensures.items in
    subst (λ m. AreSeen terms m (k + 1)) (sym pushed)
    (seen_more terms parts k t c.in_ok-part.part c.loop-index.invariant c.loop-index-test.true c.index-terms-index.is
    (sym c.refers_back.ensures ∙ c.if-not-refers_back.false)
    (λ z. c.in_ok-part.ensures.numbers z ∙ ap (λ m. admits z (map (λ (p : Visible). is_in p.numbers z) m) t) c.as_slice.ensures.value)
    (c.in_ok-part.ensures.sight ∙ ap (λ m. sight (map sight_of m) t) c.as_slice.ensures.value))
