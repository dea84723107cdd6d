use Rattle.asn1_schema_laws.proofs.Joined.{raised}
use Rattle.asn1_table_tape.proofs.ScalarRecords.{arcs_told, arcs_refused}
use Rattle.asn1_table_tape.proofs.scalars.read_arcs.Goals as goal

pub returns-in_err-value-clause-only : goal.returns-in_err-value-clause-only
returns-in_err-value-clause-only g c = raised _ _ _ c.from_residual.ensures.1 (arcs_refused c.in_err-value.ensures.only)

pub returns-clause-ok : goal.returns-clause-ok
returns-clause-ok g c = λ ns. rw c.in_ok-keep.ensures.same (arcs_told ns _ _ _ c.in_ok-value.ensures.ok c.in_ok-keep.ensures.kept)
