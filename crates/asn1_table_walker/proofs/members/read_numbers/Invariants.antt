use Rattle.std.proofs.Common.{◌≡◌}
use Rattle.asn1_table_laws.specs.Walks.{Passes}
use Rattle.asn1_table_tape.specs.Records.{records_of}
use Rattle.asn1_table_walker.specs.Frames.{pending_of}
use Rattle.asn1_table_walker.specs.declared.frames.Frame.TheVariants.{Members}
use Rattle.asn1_table_walker.proofs.members.read_numbers.Given as goal

-- What completes the rest of the list completes all of it, and where the rest is not next the list is not.
abbrev pub invariant-loop-count : goal.invariant-loop-count
invariant-loop-count g l = record {
  passes : Passes g.D.Decoder.step g.D.Decoder.too_few g.D.Decoder.too_few_members
      (pending_of l.types.nodes.items (g.D.Decoder.levels l.fn.decoder) (Members l.list l.begins 0))
      (pending_of l.types.nodes.items (g.D.Decoder.levels l.fn.decoder) (Members l.list l.begins l.count))
      l.fn.decoder l.decoder (records_of l.types.nodes.items l.fn.tape.items)
      (records_of l.types.nodes.items l.tape.items);
  level : g.D.Decoder.levels l.decoder ≡ g.D.Decoder.levels l.fn.decoder;
  going : g.D.Decoder.has_failed l.decoder → g.D.Decoder.has_failed l.fn.decoder;
}
