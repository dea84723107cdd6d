use Rattle.asn1_schema_laws.proofs.Joined.{raised}
use Rattle.asn1_table_tape.proofs.ScalarRecords.{text_told, text_refused}
use Rattle.asn1_table_tape.proofs.strings.read_text.Goals as goal

pub returns-in_err-text-clause-only : goal.returns-in_err-text-clause-only
returns-in_err-text-clause-only g c = raised _ _ _ c.from_residual.ensures.1 (λ ns. text_refused ns
    (g.D.Decoder.levels c.args.decoder.now) c.args.table.now c.text_constraints-constraints.ensures.size c.text_constraints-constraints.ensures.alphabet c.in_err-text.ensures.only)

pub returns-clause-ok : goal.returns-clause-ok
returns-clause-ok g c = λ ns e. rw c.in_ok-keep.ensures.same (text_told ns
    (g.D.Decoder.levels c.args.decoder.now) c.args.place c.args.table.now _ _ _ c.text_constraints-constraints.ensures.size c.text_constraints-constraints.ensures.alphabet
    c.in_ok-text.ensures.kind e c.in_ok-text.ensures.ok c.in_ok-keep.ensures.kept)
