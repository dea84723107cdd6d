use Rattle.asn1_notation_intervals.proofs.JoinLaws.{IsJoined}
use Rattle.asn1_notation_intervals.proofs.joining.join_ordered.Given as goal

abbrev pub invariant-loop-interval : goal.invariant-loop-interval
invariant-loop-interval l = IsJoined l.ordered l.joined.items l.interval-index
