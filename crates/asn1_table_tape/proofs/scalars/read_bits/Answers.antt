use Rattle.asn1_schema_laws.proofs.Joined.{raised}
use Rattle.asn1_table_tape.proofs.ScalarRecords.{bits_told, bits_refused}
use Rattle.asn1_table_tape.proofs.scalars.read_bits.Goals as goal

pub returns-in_err-bits-clause-only : goal.returns-in_err-bits-clause-only
returns-in_err-bits-clause-only g c = raised _ _ _ c.from_residual.ensures.1 (λ ns. bits_refused ns
    (g.D.Decoder.levels c.args.decoder.now) c.args.sizes c.size_constraints-constraints.ensures c.in_err-bits.ensures.only)

pub returns-clause-ok : goal.returns-clause-ok
returns-clause-ok g c = λ ns e. rw c.in_ok-keep.ensures.same (bits_told ns
    (g.D.Decoder.levels c.args.decoder.now) c.args.place c.args.sizes _ _ _ c.size_constraints-constraints.ensures e c.in_ok-bits.ensures.ok c.in_ok-keep.ensures.kept)
