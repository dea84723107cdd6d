use Rattle.std.proofs.Common.{◌≡◌, true, sym, subst, arith}
use Rattle.asn1_notation_intervals.specs.Sets.{ascend}
use Rattle.asn1_notation_intervals.proofs.HullLaws.{hull_of, number_of}
use Rattle.asn1_notation_intervals.proofs.sets.NumberSet.hull.Goals as goal

pub returns-in-len1-up-clause-empty : goal.returns-in-len1-up-clause-empty
returns-in-len1-up-clause-empty c =
    let a = subst (λ l. ascend l ≡ true) (sym c.as_slice-intervals.ensures.value) c.self.invariant in
    let e : c.args.self.now ≡ c.as_slice-intervals.result.now = cc in
    rw e (number_of c.as_slice-intervals.result.now (omega (arith, c.in-len1-up.len_at_least)) a)

pub returns-in-len1-up-clause-hull : goal.returns-in-len1-up-clause-hull
returns-in-len1-up-clause-hull c =
    let a = subst (λ l. ascend l ≡ true) (sym c.as_slice-intervals.ensures.value) c.self.invariant in
    let e : c.args.self.now ≡ c.as_slice-intervals.result.now = cc in
    rw e (hull_of c.as_slice-intervals.result.now _ _ (omega (arith, c.in-len1-up.len_at_least)) a)
