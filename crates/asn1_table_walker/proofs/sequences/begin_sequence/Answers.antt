use Rattle.std.proofs.Common.{◌∙◌, ap}
use Rattle.asn1_schema_laws.proofs.Joined.{raised}
use Rattle.asn1_table_tape.specs.Terms.{optional_in}
use Rattle.asn1_table_walker.proofs.SequenceTurns.{sequence_refused, sequence_opened}
use Rattle.asn1_table_walker.proofs.sequences.begin_sequence.Goals as goal

pub returns-in_err-begin_sequence-clause-only : goal.returns-in_err-begin_sequence-clause-only
returns-in_err-begin_sequence-clause-only g c = raised _ _ _ c.from_residual.ensures.1 (λ ns e. sequence_refused ns c.args.place c.args.table.now (g.D.Decoder.levels c.args.decoder.now)
    (c.count_optional-optional.ensures ∙ ap optional_in c.as_slice.ensures.value) e c.in_err-begin_sequence.ensures.only)

pub returns-clause-ok : goal.returns-clause-ok
returns-clause-ok g c = λ ns e. rw c.in_ok-keep.ensures.same
    (sequence_opened ns c.args.place g.met.D.Decoder.one_record g.met.D.Decoder.records_carried g.D.Decoder.too_few_members c.args.table.now _ _ _ _ _
    (c.count_optional-optional.ensures ∙ ap optional_in c.as_slice.ensures.value) e c.in_ok-begin_sequence.ensures.call.level c.in_ok-begin_sequence.ensures.ok c.in_ok-keep.ensures.kept)
