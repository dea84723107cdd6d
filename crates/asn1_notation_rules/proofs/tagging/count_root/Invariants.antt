use Rattle.std.proofs.Common.{◌≡◌, not, take}
use Rattle.std.specs.List.{count_by}
use Rattle.asn1_notation_rules.proofs.tagging.count_root.Given as goal

abbrev pub invariant-loop-is_added : goal.invariant-loop-is_added
invariant-loop-is_added l = l.count ≡ count_by not (take l.is_added-index l.are_added)
