use Rattle.std.proofs.Common.{◌≡◌}
use Rattle.asn1_relay_core.specs.Running.{ends}
use Rattle.asn1_relay_core.proofs.Blocks.{RunSoFar}
use Rattle.asn1_relay_core.proofs.running.run_of.Given as goal

abbrev pub invariant-loop-count : goal.invariant-loop-count
invariant-loop-count g l = record {
  so_far : RunSoFar l.fn.from l.fn.to (g.M.MessageSchema.schema l.fn.message_type 128) l.fn.limit
      (ends (g.R.Source.coming l.fn.reader) (g.W.Sink.taken l.fn.writer) (g.R.Source.failures l.fn.reader) (g.W.Sink.failures l.fn.writer))
      (ends (g.R.Source.coming l.reader) (g.W.Sink.taken l.writer) (g.R.Source.failures l.reader) (g.W.Sink.failures l.writer))
      l.relay.relaying;
  same : l.relay.message_type ≡ l.fn.message_type;
  reader_stays : g.R.Source.lender l.reader ≡ g.R.Source.lender l.fn.reader;
  writer_stays : g.W.Sink.lender l.writer ≡ g.W.Sink.lender l.fn.writer;
}

abbrev pub decreases-loop-count : goal.decreases-loop-count
decreases-loop-count g l = g.R.Source.budget l.reader
