use Rattle.std.proofs.Common.{◌≡◌, ◌+◌, length, reverse}
use Rattle.asn1_table_laws.specs.Walks.{Goes}
use Rattle.asn1_table_nodes.specs.Meaning.{type_at}
use Rattle.asn1_table_tape.specs.Records.{records_of}
use Rattle.asn1_table_walker.specs.Frames.{pendings, with_frame, levels_in}
use Rattle.asn1_table_walker.proofs.reading.read_onto.Given as goal

abbrev pub invariant-loop-turn : goal.invariant-loop-turn
invariant-loop-turn g l = record {
  goes : Goes g.D.Decoder.step g.D.Decoder.too_few g.D.Decoder.too_few_members (type_at l.types.nodes.items (g.D.Decoder.levels l.fn.decoder) l.place) l.fn.decoder
      (records_of l.types.nodes.items l.fn.tape.items) (pendings l.types.nodes.items (g.D.Decoder.levels l.decoder) (with_frame l.innermost (reverse l.outer.items))) l.decoder
      (records_of l.types.nodes.items l.tape.items);
  level : g.D.Decoder.levels l.decoder + (levels_in l.innermost + length l.outer.items) ≡ g.D.Decoder.levels l.fn.decoder;
  going : g.D.Decoder.has_failed l.decoder → ⊥;
}
