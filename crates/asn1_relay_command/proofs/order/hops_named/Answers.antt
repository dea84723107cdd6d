use Rattle.std.proofs.Common.{arith, map}
use Rattle.asn1_relay_command.proofs.OrderLemmas.{all_hops, hops_start, no_hop, one_more_hop}
use Rattle.asn1_relay_command.proofs.order.hops_named.Goals as goal

pub loop-name-init : goal.loop-name-init
loop-name-init c = hops_start (map (λ s. s.now) c.args.names.now) c.new-hops.result.items c.new-hops.ensures.items

pub returns-in-None : goal.returns-in-None
returns-in-None c = no_hop c.args.names.now c.loop-name.name-index c.loop-name.hops.items c.loop-name.invariant _ (omega arith) c.in-None.ensures

pub loop-name-preserved : goal.loop-name-preserved
loop-name-preserved c =
    one_more_hop c.args.names.now c.loop-name.name-index c.loop-name.hops.items c.loop-name.invariant _ (omega arith) c.in-Some.hop
    c.push.new.self.items c.in-Some.ensures c.in_ok-push-in-Some.ensures.items

pub returns : goal.returns
returns c = all_hops c.args.names.now c.loop-name.name-index c.loop-name.hops.items c.loop-name.invariant (omega arith)
