use Rattle.asn1_schema_laws.proofs.Joined.{raised}
use Rattle.asn1_table_tape.proofs.ScalarRecords.{nil_told, nil_refused}
use Rattle.asn1_table_tape.proofs.scalars.read_nil.Goals as goal

pub returns-in_err-decode_null-clause-only : goal.returns-in_err-decode_null-clause-only
returns-in_err-decode_null-clause-only g c = raised _ _ _ c.from_residual.ensures.1 (nil_refused c.in_err-decode_null.ensures.only)

pub returns-clause-ok : goal.returns-clause-ok
returns-clause-ok g c = λ ns. rw c.in_ok-keep.ensures.same (nil_told ns _ _ c.in_ok-decode_null.ensures.ok c.in_ok-keep.ensures.kept)
