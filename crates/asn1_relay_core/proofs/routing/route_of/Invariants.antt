use Rattle.std.proofs.Common.{◌≤◌, length}
use Rattle.asn1_relay_core.proofs.Outcomes.{PassedBy}
use Rattle.asn1_relay_core.proofs.routing.route_of.Given as goal

abbrev pub invariant-loop-place : goal.invariant-loop-place
invariant-loop-place g l = (l.place ≤ length l.hops) × PassedBy (g.Old.MessageSchema.schema l.older 128) (g.New.MessageSchema.schema l.newer 128) l.fn.from l.hops l.fn.input l.rules l.octets.items l.place
