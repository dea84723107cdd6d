use Rattle.std.proofs.Common.{◌≡◌, ◌+◌, ◌≤◌, drop}
use Rattle.asn1_schema_wrapped.specs.Equality.{times}
use Rattle.asn1_schema_wrapped.proofs.equality.count_of.Given as goal

abbrev pub invariant-loop-item : goal.invariant-loop-item
invariant-loop-item g l = (l.count + times g.T.PartialEq.eq l.wanted (drop l.item-index l.items) ≡ times g.T.PartialEq.eq l.wanted l.items) × (l.count ≤ l.item-index)
