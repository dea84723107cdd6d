use Rattle.std.proofs.Common.{◌≡◌, false, length}
use Rattle.asn1_relay_core.proofs.Feeding.{SoFar}
use Rattle.asn1_relay_core.proofs.relay.RelayOf.feed.Given as goal

abbrev pub invariant-loop-self : goal.invariant-loop-self
invariant-loop-self g l = (l.fn.self.relaying.failed ≡ false)
    × SoFar (g.M.MessageSchema.schema l.fn.self.message_type 128) l.fn.self.relaying l.self.relaying l.piece l.fn.out.items l.out.items
    × (l.self.message_type ≡ l.fn.self.message_type)

abbrev pub decreases-loop-self : goal.decreases-loop-self
decreases-loop-self g l = length l.self.relaying.unread
