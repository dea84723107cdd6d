use Rattle.std.proofs.Common.{◌≡◌, drop, map}
use Rattle.asn1_relay_command.specs.Orders.{hops_by_names}
use Rattle.asn1_relay_command.proofs.OrderLemmas.{followed_by}
use Rattle.asn1_relay_command.proofs.order.hops_named.Given as goal

-- the hops so far, and those of the names that are left
abbrev pub invariant-loop-name : goal.invariant-loop-name
invariant-loop-name l = hops_by_names (map (λ s. s.now) l.names) ≡ followed_by l.hops.items (hops_by_names (drop l.name-index (map (λ s. s.now) l.names)))
