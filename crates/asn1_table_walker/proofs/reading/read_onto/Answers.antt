use Rattle.std.proofs.Common.{sym, reverse, arith}
use Rattle.asn1_schema_laws.proofs.Joined.{raised}
use Rattle.asn1_table_nodes.specs.Meaning.{type_at}
use Rattle.asn1_table_tape.specs.Records.{records_of}
use Rattle.asn1_table_walker.specs.Frames.{with_frame}
use Rattle.asn1_table_walker.proofs.Looping.{walk_begins, walk_ends, walk_refused, onto_of, unread_of}
use Rattle.asn1_table_walker.proofs.reading.read_onto.Goals as goal

pub loop-turn-init : goal.loop-turn-init
loop-turn-init g c =
    let ns = c.args.types.now.nodes.items in
    record {
      goes = rw (sym c.reserve.ensures.items) (walk_begins g.D.Decoder.step g.D.Decoder.too_few g.D.Decoder.too_few_members ns (type_at ns (g.D.Decoder.levels c.args.decoder.now) c.args.place)
          c.in_ok-innermost.innermost (g.D.Decoder.levels c.open.new.decoder) c.args.decoder.now c.open.new.decoder _ (records_of ns c.open.new.tape.items)
          _ c.new-outer.ensures.items c.in_ok-innermost.ensures.ok);
      level = rw c.new-outer.ensures.items (omega (arith, c.in_ok-innermost.ensures.level));
      going = c.in_ok-innermost.ensures.going;
    }

pub returns-in_default-clause-ok : goal.returns-in_default-clause-ok
returns-in_default-clause-ok g c =
    let ns = c.args.types.now.nodes.items in
    onto_of (λ n. type_at ns n c.args.place) (g.D.Decoder.levels c.args.decoder.now) (walk_ends g.D.Decoder.step g.D.Decoder.too_few g.D.Decoder.too_few_members ns
    (type_at ns (g.D.Decoder.levels c.args.decoder.now) c.args.place) (g.D.Decoder.levels c.loop-turn.decoder) c.args.decoder.now c.loop-turn.decoder (records_of ns c.args.tape.now.items)
    (records_of ns c.loop-turn.tape.items) (with_frame c.loop-turn.innermost (reverse c.loop-turn.outer.items)) c.in_default.ensures.none c.loop-turn.invariant.goes)

pub returns-in_err-innermost-2-clause-only : goal.returns-in_err-innermost-2-clause-only
returns-in_err-innermost-2-clause-only g c =
    let ns = c.args.types.now.nodes.items in
    raised _ _ _ c.from_residual-in_err-innermost-2.ensures.1 (unread_of (λ n. type_at ns n c.args.place) (g.D.Decoder.levels c.args.decoder.now)
    (walk_refused g.D.Decoder.step g.D.Decoder.too_few g.D.Decoder.too_few_members ns (type_at ns (g.D.Decoder.levels c.args.decoder.now) c.args.place)
    (g.D.Decoder.levels c.loop-turn.decoder) _ _ _ _ _ _ _ _ c.in-Some.ensures.taken c.loop-turn.invariant.goes c.in_err-innermost-2.ensures.only))
