use Rattle.std.proofs.Common.{◌≡◌, length}
use Rattle.asn1_table_tape.specs.Replays.{Replayed}
use Rattle.asn1_table_tape.proofs.replaying.replay.Given as goal

abbrev pub invariant-loop-event : goal.invariant-loop-event
invariant-loop-event g l = record {
  replayed : Replayed g.E.Encoder.step l.types.nodes.items l.tape l.rest l.fn.encoder l.encoder;
  front : g.E.Encoder.front l.encoder ≡ g.E.Encoder.front l.fn.encoder;
  going : g.E.Encoder.has_failed l.encoder → g.E.Encoder.has_failed l.fn.encoder;
}

abbrev pub decreases-loop-event : goal.decreases-loop-event
decreases-loop-event g l = length l.rest
