use Rattle.asn1_schema_laws.proofs.Joined.{raised}
use Rattle.asn1_table_laws.proofs.Additions.{end_stuck}
use Rattle.asn1_table_walker.proofs.SequenceTurns.{end_told}
use Rattle.asn1_table_walker.proofs.sequences.end_sequence.Goals as goal

pub returns-in_err-end-clause-only : goal.returns-in_err-end-clause-only
returns-in_err-end-clause-only g c = raised _ _ _ c.from_residual.ensures.1 (end_stuck c.in_err-end.ensures.only)

pub returns-clause-ok : goal.returns-clause-ok
returns-clause-ok g c = λ ns. rw c.in_ok-keep.ensures.same (end_told _ ns _ _ c.in_ok-end.ensures.ok c.in_ok-keep.ensures.kept)
