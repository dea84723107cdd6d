use Rattle.std.proofs.Common.{◌≡◌, ℕ, ◌<◌, ◌-◌, ◌^◌, Some, slice_get}
use Rattle.asn1_table_extending.specs.Leading.{Lead}
use Rattle.asn1_table_extending.specs.Matching.{IsListed, PairMatches}
use Rattle.asn1_table_extending.specs.declared.pairs.Pair.{Pair}
use Rattle.asn1_table_extending.proofs.extending.check_extends.Given as goal

-- The first pair is listed, it leads to all that are listed, and the types of those so far match.
abbrev pub invariant-loop-next : goal.invariant-loop-next
invariant-loop-next l = record {
  first : IsListed l.pairs.items l.old_place l.new_place;
  led : (i j : ℕ) → IsListed l.pairs.items i j → Lead l.older.nodes.items l.newer.nodes.items l.old_place l.new_place i j;
  matched : (k : ℕ) (p : Pair) → k < l.next → slice_get l.pairs.items k ≡ Some p → PairMatches l.older.nodes.items l.newer.nodes.items l.pairs.items p;
}

abbrev pub decreases-loop-next : goal.decreases-loop-next
decreases-loop-next l = 2 ^ 64 - l.next
