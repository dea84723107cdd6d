use Rattle.std.proofs.Common.{arith, reverse}
use Rattle.asn1_schema_laws.proofs.Joined.{raised}
use Rattle.asn1_table_walker.proofs.Looping.{ended_on, again_on, entered_on, frame_refused, value_refused}
use Rattle.asn1_table_walker.proofs.reading.turn.Goals as goal

pub returns-in_err-go_on-clause-only : goal.returns-in_err-go_on-clause-only
returns-in_err-go_on-clause-only g c = raised _ _ _ c.from_residual.ensures.1 (frame_refused c.args.types.now.nodes.items (g.D.Decoder.levels c.args.decoder.now) c.args.frame
    (reverse c.args.outer.now.items) c.in_err-go_on.ensures.only)

pub returns-in_err-opened-in-Value-clause-only : goal.returns-in_err-opened-in-Value-clause-only
returns-in_err-opened-in-Value-clause-only g c =
    let l = rw c.in-Value.is at c.in_ok-go_on.ensures.level in
    let h = rw c.in-Value.is at c.in_ok-go_on.ensures.ok in
    raised _ _ _ c.from_residual-in_err-opened-in-Value.ensures.1 (value_refused c.args.types.now.nodes.items (g.D.Decoder.levels c.args.decoder.now) c.args.frame
    (reverse c.args.outer.now.items) (g.D.Decoder.levels c.go_on.new.decoder) c.in-Value.place (omega (arith, l)) h c.in_err-opened-in-Value.ensures.only)

pub returns-in-Ended-clause-ok : goal.returns-in-Ended-clause-ok
returns-in-Ended-clause-ok g c = ended_on c.args.types.now.nodes.items (g.D.Decoder.levels c.args.decoder.now) c.args.frame (reverse c.args.outer.now.items)
    (g.D.Decoder.levels c.go_on.new.decoder) (rw c.in-Ended.is at c.in_ok-go_on.ensures.level) (rw c.in-Ended.is at c.in_ok-go_on.ensures.ok)

pub returns-in-Again-clause-ok : goal.returns-in-Again-clause-ok
returns-in-Again-clause-ok g c =
    let l = rw c.in-Again.is at c.in_ok-go_on.ensures.level in
    again_on c.args.types.now.nodes.items (g.D.Decoder.levels c.args.decoder.now) c.args.frame (reverse c.args.outer.now.items)
    (g.D.Decoder.levels c.go_on.new.decoder) c.in-Again.rest (omega (arith, l)) (rw c.in-Again.is at c.in_ok-go_on.ensures.ok)

pub returns-in_ok-innermost-in-Value-clause-ok : goal.returns-in_ok-innermost-in-Value-clause-ok
returns-in_ok-innermost-in-Value-clause-ok g c =
    let l = rw c.in-Value.is at c.in_ok-go_on.ensures.level in
    rw c.in_ok-innermost-in-Value.ensures.same (entered_on c.args.types.now.nodes.items (g.D.Decoder.levels c.args.decoder.now) c.args.frame
    (reverse c.args.outer.now.items) (g.D.Decoder.levels c.go_on.new.decoder) _ c.in-Value.place c.in-Value.rest c.in_ok-opened-in-Value.opened _ _ c.in_ok-innermost-in-Value.ensures.entered
    (omega (arith, l)) c.in_ok-opened-in-Value.ensures.level (rw c.in-Value.is at c.in_ok-go_on.ensures.ok) c.in_ok-opened-in-Value.ensures.ok)
