use Rattle.std.proofs.Common.{arith, ap, length}
use Rattle.asn1_schema_laws.proofs.Joined.{raised}
use Rattle.asn1_table_walker.proofs.SequenceTurns.{root_ends, root_end_refused, additions_refused, additions_begun}
use Rattle.asn1_table_walker.proofs.sequences.behind_root.Goals as goal

pub returns-in_err-end_sequence-clause-only : goal.returns-in_err-end_sequence-clause-only
returns-in_err-end_sequence-clause-only g c = raised _ _ _ c.from_residual.ensures.1
    (λ ns. root_end_refused g.met.D.Decoder.one_record g.met.D.Decoder.records_carried g.met.D.Decoder.values_carried g.D.Decoder.too_few_members ns
    (g.D.Decoder.levels c.args.decoder.now) c.args.lists.now c.has_additions.ensures c.if-not-has_additions.true c.in_err-end_sequence.ensures.only)

pub returns-then-not-has_additions-clause-ok : goal.returns-then-not-has_additions-clause-ok
returns-then-not-has_additions-clause-ok g c = λ ns e. root_ends g.met.D.Decoder.one_record g.met.D.Decoder.records_carried g.met.D.Decoder.values_carried g.D.Decoder.too_few_members ns
    (g.D.Decoder.levels c.args.decoder.now) c.args.lists.now c.has_additions.ensures c.if-not-has_additions.true (c.in_ok-end_sequence.ensures.ok ns)

pub returns-in_err-begin_additions-clause-only : goal.returns-in_err-begin_additions-clause-only
returns-in_err-begin_additions-clause-only g c = raised _ _ _ c.from_residual-in_err-begin_additions.ensures.1
    (λ ns. additions_refused g.met.D.Decoder.one_record g.met.D.Decoder.records_carried g.met.D.Decoder.values_carried g.D.Decoder.too_few_members ns
    (g.D.Decoder.levels c.args.decoder.now) c.args.lists.now c.has_additions.ensures c.if-not-has_additions.false (let j = ap length c.additions-count.ensures in omega (arith, j))
    c.in_err-begin_additions.ensures.only)

pub returns-clause-ok : goal.returns-clause-ok
returns-clause-ok g c = λ ns e. rw c.in_ok-keep.ensures.same
    (additions_begun g.met.D.Decoder.one_record g.met.D.Decoder.records_carried g.met.D.Decoder.values_carried g.D.Decoder.too_few_members ns
    (g.D.Decoder.levels c.args.decoder.now) c.args.sequence 0 c.args.lists.now e _ _ _
    (let j = ap length c.additions-count.ensures in omega (arith, j)) c.has_additions.ensures c.if-not-has_additions.false c.in_ok-begin_additions.ensures.ok c.in_ok-keep.ensures.kept)
