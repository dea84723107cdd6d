use Rattle.std.proofs.Common.{◌∙◌, sym, ap}
use Rattle.asn1_schema_laws.proofs.Joined.{raised}
use Rattle.asn1_table_tape.specs.Terms.{optional_in}
use Rattle.asn1_table_walker.proofs.SequenceTurns.{group_refused, group_opened}
use Rattle.asn1_table_walker.proofs.sequences.begin_group.Goals as goal

pub returns-in_err-begin_group-clause-only : goal.returns-in_err-begin_group-clause-only
returns-in_err-begin_group-clause-only g c = raised _ _ _ c.from_residual.ensures.1 (λ ns cs v e. group_refused ns c.args.place cs (g.D.Decoder.levels c.args.decoder.now)
    (c.count_optional-optional.ensures ∙ ap optional_in (sym v)) e c.in_err-begin_group.ensures.only)

pub returns-clause-ok : goal.returns-clause-ok
returns-clause-ok g c = λ ns cs v e. rw c.in_ok-keep.ensures.same
    (group_opened ns c.args.place g.met.D.Decoder.one_record g.met.D.Decoder.records_carried g.D.Decoder.too_few_members cs _ _ _ _ _
    (c.count_optional-optional.ensures ∙ ap optional_in (sym v)) e c.in_ok-begin_group.ensures.call.level c.in_ok-begin_group.ensures.ok c.in_ok-keep.ensures.kept)
