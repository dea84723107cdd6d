use Rattle.std.proofs.Common.{◌≡◌, ◌+◌, drop}
use Rattle.std.specs.List.{prefix_len}
use Rattle.asn1_notation_rules.specs.Ordering.{comes_before}
use Rattle.asn1_notation_rules.proofs.ordering.place_of.Given as goal

-- Each tag so far comes before it.
abbrev pub invariant-loop-place : goal.invariant-loop-place
invariant-loop-place l =
    l.place + prefix_len (comes_before l.tags l.tag) (drop l.place l.order) ≡ prefix_len (comes_before l.tags l.tag) l.order
