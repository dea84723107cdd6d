use Rattle.asn1_notation_rules.specs.Ordering.{AreInOrder}
use Rattle.asn1_notation_rules.proofs.ordering.canonical_order.Given as goal

-- The indices so far are in order.
abbrev pub invariant-loop-index : goal.invariant-loop-index
invariant-loop-index l = AreInOrder l.tags l.index l.order.items
