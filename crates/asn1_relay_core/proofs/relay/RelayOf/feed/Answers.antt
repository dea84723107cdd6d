use Rattle.std.proofs.Common.{◌≡◌, ◌⊎◌, ◌∙◌, ◌≤◌, ℕ, ◌++◌, eqb, eqb-true, length, List, [], true, false, sym, ap, subst, Some, arith}
use Rattle.std.proofs.lemmas.List.{nil_from_length}
use Rattle.asn1_laws_across.specs.Relayed.{Stop, StopsAt}
use Rattle.asn1_relay_core.specs.Coding.{rules_of}
use Rattle.asn1_relay_core.specs.declared.fault.RelayFaultKind.TheVariants as kind
use Rattle.asn1_relay_core.specs.declared.codec.Codec.{Codec}
use Rattle.asn1_relay_core.specs.declared.fault.RelayFault.{RelayFault}
use Rattle.asn1_relay_core.specs.declared.fault.RelayFaultKind.{RelayFaultKind}
use Rattle.asn1_relay_core.specs.Relaying.{Relaying, kind_of_stop, onwards}
use Rattle.asn1_relay_core.specs.Attempts.{Awaits, RelaysOne}
use Rattle.asn1_relay_core.proofs.Feeding.{SoFar, one_more, stopped, grown_alike, nothing_fed, waited, awaits_on}
use Rattle.asn1_relay_core.proofs.relay.RelayOf.feed.Goals as goal

pub invariant_of-self-then-len-self : goal.invariant_of-self-then-len-self
invariant_of-self-then-len-self g c =
    let s = g.M.MessageSchema.schema c.self.inside.message_type 128 in
    let way = c.self.inside.way in
    let awaited = c.self.inside.awaited in
    let here = awaits_on (rules_of way.from) s way.limit c.self.inside.unread.items c.args.piece.now awaited c.self.invariant.1 in
    (c.self.invariant.0, subst (λ u. Awaits (rules_of way.from) s way.limit u awaited) (sym c.in-Ok.ensures.ok) here)

pub returns-then-len-self-clause-ok : goal.returns-then-len-self-clause-ok
returns-then-len-self-clause-ok g c =
    let s = g.M.MessageSchema.schema c.args.self.now.message_type 128 in
    let way = c.self.inside.way in
    let old = c.args.self.now.relaying in
    let piece = c.args.piece.now in
    let view = ap (λ r. r.relaying) c.self.view_is in
    let had : old.failed ≡ false = sym (ap (λ (r : Relaying). r.failed) view) ∙ c.if-self.false in
    let unread : c.self.inside.unread.items ≡ old.unread = ap (λ (r : Relaying). r.unread) view in
    let limit : way.limit ≡ old.limit = ap (λ (r : Relaying). r.limit) view in
    let number : old.number ≡ c.self.inside.number = sym (ap (λ (r : Relaying). r.number) view) in
    let ranges = c.self.ranges in
    let most : old.number ≤ 18446744073709551615 = omega arith in
    let grown : c.extend_from_slice.new.self.items ≡ old.unread ++ piece = c.in-Ok.ensures.ok ∙ ap (λ l. l ++ piece) unread in
    let longer = ap length grown in
    let now = ap (λ (u : List ℕ). let r : Relaying = record {
      from = way.from;
      to = way.to;
      limit = way.limit;
      unread = u;
      number =
          c.self.inside.number;
      failed = c.self.inside.failed;
    } in r) c.in-Ok.ensures.ok
    ∙ (ap (λ (r : Relaying). onwards r (r.unread ++ piece) r.number r.failed) view ∙ ap (λ b. onwards old (old.unread ++ piece) old.number b) had) in
    let w : Awaits (rules_of old.from) s old.limit old.unread c.self.inside.awaited =
    subst (λ r. Awaits (rules_of r.relaying.from) (g.M.MessageSchema.schema r.message_type 128) r.relaying.limit r.relaying.unread c.self.inside.awaited) c.self.view_is c.self.invariant.1 in
    let few = c.if-len-awaited.true in
    let first = c.len.ensures.value in
    let within = c.if-len-self.true in
    let second = c.len-then-len-awaited.ensures.value in
    waited s old _ piece c.args.out.now.items c.self.inside.awaited had now most w (omega arith) (omega arith)

pub loop-self-preserved : goal.loop-self-preserved
loop-self-preserved g c =
    let old = c.args.self.now in
    let s = g.M.MessageSchema.schema old.message_type 128 in
    let way = c.self-in-loop-self.inside.way in
    let unread = c.self-in-loop-self.inside.unread.items in
    let view = ap (λ r. r.relaying) c.self-in-loop-self.view_is in
    let same = ap (λ r. r.message_type) c.self-in-loop-self.view_is ∙ c.loop-self.invariant.2 in
    let h = subst (λ r. SoFar s old.relaying r c.args.piece.now c.args.out.now.items c.loop-self.out.items) (sym view) c.loop-self.invariant.1 in
    let here = subst (λ u. RelaysOne (rules_of way.from) (rules_of way.to) (g.M.MessageSchema.schema c.self-in-loop-self.inside.message_type 128) way.limit u
    c.loop-self.out.items c.relay_front.new.out.items c.in-Relayed.count) c.as_slice.ensures c.in-Relayed.ensures in
    let one = subst (λ t. RelaysOne (rules_of way.from) (rules_of way.to) (g.M.MessageSchema.schema t 128) way.limit unread c.loop-self.out.items
    c.relay_front.new.out.items c.in-Relayed.count) same here in (
      c.loop-self.invariant.0,
      one_more s old.relaying c.args.piece.now c.args.out.now.items _ c.loop-self.out.items h _ c.relay_front.new.out.items
          c.in-Relayed.count one (cc (c.advance.ensures.items, c.saturating_add-self-inside.ensures)),
      same,
    )

abbrev fault_at : ℕ → RelayFaultKind → RelayFault
fault_at n k = record { number = n; kind = k }

pub returns-in-Stops-clause-only : goal.returns-in-Stops-clause-only
returns-in-Stops-clause-only g c =
    let old = c.args.self.now in
    let s = g.M.MessageSchema.schema old.message_type 128 in
    let way = c.self-in-loop-self.inside.way in
    let Cause : Codec → Codec → _ → ℕ → List ℕ → Type 0 = λ a b t l u.
    (c.in-Stops.kind ≡ kind.Memory) ⊎
    ((why : Stop) × (c.in-Stops.kind ≡ kind_of_stop why) × StopsAt (rules_of a) (rules_of b) (g.M.MessageSchema.schema t 128) l u (Some why)) in
    let cause : Cause way.from way.to c.self-in-loop-self.inside.message_type way.limit c.self-in-loop-self.inside.unread.items =
    subst (Cause way.from way.to c.self-in-loop-self.inside.message_type way.limit) c.as_slice.ensures c.in-Stops.ensures.1 in
    let there = subst (λ r. Cause r.relaying.from r.relaying.to r.message_type r.relaying.limit r.relaying.unread) c.self-in-loop-self.view_is cause in
    let now = c.loop-self.self.relaying in
    let view = ap (λ r. r.relaying) c.self-in-loop-self.view_is in
    let stops = ap (λ r. r.relaying) c.stop-in-Stops.ensures.stops ∙ ap (λ (r : Relaying). onwards r r.unread r.number true) view in
    let fault = c.stop-in-Stops.ensures.fault ∙ ap (λ (r : Relaying). fault_at r.number c.in-Stops.kind) view in
    let here : Cause now.from now.to old.message_type now.limit now.unread = subst (λ t. Cause now.from now.to t now.limit now.unread) c.loop-self.invariant.2 there in
    stopped s old.relaying c.args.piece.now c.args.out.now.items now c.relay_front.new.out.items
    (grown_alike s old.relaying c.args.piece.now c.args.out.now.items now c.loop-self.out.items c.relay_front.new.out.items
    c.loop-self.invariant.1 c.in-Stops.ensures.0) _ _ c.in-Stops.kind stops fault
    c.loop-self.invariant.0 here

pub returns-then-is_empty-2-clause-ok : goal.returns-then-is_empty-2-clause-ok
returns-then-is_empty-2-clause-ok g c =
    let old = c.args.self.now.relaying in
    let view = ap (λ r. r.relaying) c.self.view_is in
    let had : old.failed ≡ false = sym (ap (λ (r : Relaying). r.failed) view) ∙ c.if-self.false in
    let number : old.number ≡ c.self.inside.number = sym (ap (λ (r : Relaying). r.number) view) in
    let ranges = c.self.ranges in
    let most : old.number ≤ 18446744073709551615 = omega arith in
    let t : eqb (length c.args.piece.now) 0 ≡ true = cc in
    let e : eqb (length c.self.inside.unread.items) 0 ≡ true = cc in
    let p : c.args.piece.now ≡ [] = nil_from_length c.args.piece.now (eqb-true (length c.args.piece.now) 0 t) in
    let u : old.unread ≡ [] = sym (ap (λ (r : Relaying). r.unread) view) ∙ nil_from_length c.self.inside.unread.items (eqb-true (length c.self.inside.unread.items) 0 e) in
    nothing_fed (g.M.MessageSchema.schema c.args.self.now.message_type 128) old c.args.piece.now c.args.out.now.items had u p most
