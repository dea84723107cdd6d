use Rattle.std.proofs.Common.{length, min, take, ap, sym, ◌∙◌}
use Rattle.asn1_relay_core.proofs.Gives.{gives, left_of, tells_end}
use Rattle.asn1_relay_core.proofs.memory.MemorySourceSource.read.Goals as goal

pub returns-clause-octets : goal.returns-clause-octets
returns-clause-octets c =
    let octets = c.self.inside.octets.items in
    let given = c.self.inside.given in
    let w = left_of given octets c.deref.result.now c.deref.ensures.value in
    let n = c.min-count.ensures ∙ ap (λ l. min (length l) (length c.args.room.now)) w in
    let a = c.copy_from_slice.ensures.after ∙ ap (take c.min-count.result) w in (
      sym (ap (λ v. v.coming) c.self.view_is) ∙ gives octets c.args.room.now c.copy_from_slice.new.self given c.min-count.result n a,
      tells_end octets c.args.room.now c.copy_from_slice.new.self given c.min-count.result n a,
    )
