use Rattle.std.proofs.Common.{◌≡◌, ◌-◌, ◌≤◌, drop}
use Rattle.asn1_schema_tags.specs.Places.{ascends}
use Rattle.asn1_schema_tags.proofs.finding.ascend.Given as goal

abbrev pub invariant-loop-next : goal.invariant-loop-next
invariant-loop-next l = (1 ≤ l.next) × (ascends (drop (l.next - 1) l.places) ≡ ascends l.places)
