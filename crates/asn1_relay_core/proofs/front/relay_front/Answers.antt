use Rattle.std.proofs.Common.{◌-◌, length, take, ltb, refl, ap, sym, subst, arith}
use Rattle.asn1_schema_decode.specs.Messages.{NeedsMore, NoMessage}
use Rattle.asn1_relay_core.specs.Coding.{rules_of}
use Rattle.asn1_relay_core.specs.Attempts.{Tries}
use Rattle.asn1_relay_core.specs.MessageTypes.{TellsAs}
use Rattle.asn1_relay_core.proofs.Trying.{tried_none, tried_relayed, tried_nothing}
use Rattle.asn1_relay_core.proofs.front.relay_front.Goals as goal

pub returns-in-Err : goal.returns-in-Err
returns-in-Err g c =
    let e = c.in-Err.refusal.error in
    let n = c.in-Err.refusal.needed in
    let number = c.saturating_add-number.result in
    let least = c.saturating_add-number.ensures in
    let w = subst (λ k. NoMessage (rules_of c.args.way.from) (g.M.MessageSchema.schema c.args.message_type.now) (take k c.args.unread.now) e) c.min.ensures c.in-Err.ensures.only in
    let m = subst (λ k. NeedsMore (rules_of c.args.way.from) (g.M.MessageSchema.schema c.args.message_type.now) (take k c.args.unread.now) n e) c.min.ensures c.in-Err.ensures.needed in
    let t = tried_none (rules_of c.args.way.from) (rules_of c.args.way.to) (g.M.MessageSchema.schema c.args.message_type.now) c.args.way.limit c.args.unread.now e n number
    (ltb c.args.way.limit (length c.args.unread.now)) c.args.out.now.items c.args.out.now.items refl (omega arith) refl w m in
    subst (λ f. Tries (rules_of c.args.way.from) (rules_of c.args.way.to) (g.M.MessageSchema.schema c.args.message_type.now 128) c.args.way.limit c.args.unread.now
    c.args.out.now.items c.args.out.now.items f) (sym c.without_message.ensures) t

pub returns-in-Ok-write : goal.returns-in-Ok-write
returns-in-Ok-write g c =
    let schema = g.M.MessageSchema.schema c.args.message_type.now in
    let Means = g.M.MessageType.means c.args.message_type.now c.in-Ok.front.0 in
    let told = subst (λ k. TellsAs (rules_of c.args.way.from) schema Means (take k c.args.unread.now) c.in-Ok.front.1.now) c.min.ensures c.in-Ok.ensures.ok in
    tried_relayed (rules_of c.args.way.from) (rules_of c.args.way.to) schema c.args.way.limit c.args.unread.now Means told.value told.means
    c.in-Ok.front.1.now told.tells (g.met.M.MessageType.valued c.args.message_type.now c.in-Ok.front.0 told.value told.means) _ _ _
    (ap (λ k. length (take k c.args.unread.now) - length c.in-Ok.front.1.now) c.min.ensures) (omega arith) c.in-Ok-write.ensures.ok

pub returns : goal.returns
returns g c =
    let schema = g.M.MessageSchema.schema c.args.message_type.now in
    let Means = g.M.MessageType.means c.args.message_type.now c.in-Ok.front.0 in
    let told = subst (λ k. TellsAs (rules_of c.args.way.from) schema Means (take k c.args.unread.now) c.in-Ok.front.1.now) c.min.ensures c.in-Ok.ensures.ok in
    let n = ap (λ k. length (take k c.args.unread.now) - length c.in-Ok.front.1.now) c.min.ensures in
    tried_nothing (rules_of c.args.way.from) (rules_of c.args.way.to) schema c.args.way.limit c.args.unread.now Means told.value told.means
    c.in-Ok.front.1.now told.tells (g.met.M.MessageType.valued c.args.message_type.now c.in-Ok.front.0 told.value told.means) _ _ _ (omega arith)
    c.in-Err-write.ensures.only
