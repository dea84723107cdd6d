use Rattle.asn1_schema_laws.proofs.Joined.{raised}
use Rattle.asn1_table_tape.proofs.ScalarRecords.{octets_told, octets_refused}
use Rattle.asn1_table_tape.proofs.scalars.read_octets.Goals as goal

pub returns-in_err-read-clause-only : goal.returns-in_err-read-clause-only
returns-in_err-read-clause-only g c = raised _ _ _ c.from_residual.ensures.1 (λ ns. octets_refused ns
    (g.D.Decoder.levels c.args.decoder.now) c.args.sizes c.size_constraints-constraints.ensures c.in_err-read.ensures.only)

pub returns-clause-ok : goal.returns-clause-ok
returns-clause-ok g c = λ ns e. rw c.in_ok-keep.ensures.same (octets_told ns
    (g.D.Decoder.levels c.args.decoder.now) c.args.place c.args.sizes _ _ _ c.size_constraints-constraints.ensures c.in-Ok.ensures.ok e c.in_ok-read.ensures.ok c.in_ok-keep.ensures.kept)
