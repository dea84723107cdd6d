use Rattle.std.proofs.Common.{◌≡◌, drop}
use Rattle.asn1_schema_wrapped.specs.Equality.{are_alike}
use Rattle.asn1_schema_wrapped.proofs.equality.occur_alike.Given as goal

abbrev pub invariant-loop-item : goal.invariant-loop-item
invariant-loop-item g l = are_alike g.T.PartialEq.eq l.left l.right (drop l.item-index l.items) ≡ are_alike g.T.PartialEq.eq l.left l.right l.items
