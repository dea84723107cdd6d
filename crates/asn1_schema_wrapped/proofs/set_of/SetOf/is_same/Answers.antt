use Rattle.asn1_schema_wrapped.proofs.Sorted.{same_by_order}
use Rattle.asn1_schema_wrapped.proofs.set_of.SetOf.is_same.Goals as goal

pub returns : goal.returns
returns g c = same_by_order g.met.T.Eq.laws g.met.T.Ord.total g.met.T.Ord.matches_eq (λ x. x.now)
    c.in_ok-left.ensures c.in_ok-right.ensures c.sort_unstable.ensures.permutation c.sort_unstable-2.ensures.permutation
    c.sort_unstable.ensures.sorted c.sort_unstable-2.ensures.sorted c.eq.ensures
