use Rattle.std.proofs.Common.{◌≡◌, length}
use Rattle.asn1_schema_wrapped.specs.Equality.{same_items}
use Rattle.asn1_schema_wrapped.proofs.equality.behind_equal.Given as goal

-- what is left gives equal SET OF values exactly if the whole lists do
abbrev pub invariant-loop-x : goal.invariant-loop-x
invariant-loop-x g l = same_items g.T.PartialEq.eq l.xs l.ys ≡ same_items g.T.PartialEq.eq l.left l.right

abbrev pub decreases-loop-x : goal.decreases-loop-x
decreases-loop-x g l = length l.xs
