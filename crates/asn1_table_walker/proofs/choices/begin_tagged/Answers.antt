use Rattle.asn1_schema_laws.proofs.Joined.{raised}
use Rattle.asn1_table_walker.proofs.ChoiceTurns.{choice_refused, choice_opened}
use Rattle.asn1_table_walker.proofs.choices.begin_tagged.Goals as goal

pub returns-in_err-chosen-clause-only : goal.returns-in_err-chosen-clause-only
returns-in_err-chosen-clause-only g c = raised _ _ _ c.from_residual.ensures.1 (λ ns e. choice_refused ns c.args.place c.args.table.now (g.D.Decoder.levels c.args.decoder.now)
    c.requires e c.in_err-chosen.ensures.only)

pub returns-clause-ok : goal.returns-clause-ok
returns-clause-ok g c = λ ns e. rw c.in_ok-keep.ensures.same
    (choice_opened g.met.D.Decoder.one_record g.met.D.Decoder.records_carried g.D.Decoder.too_few_members ns c.args.place c.args.table.now _ _ _ _ c.in_ok-chosen.chosen c.value_place-value.result
    c.requires c.value_place-value.ensures e c.in_ok-chosen.ensures.call.level c.in_ok-chosen.ensures.ok c.in_ok-keep.ensures.kept)
