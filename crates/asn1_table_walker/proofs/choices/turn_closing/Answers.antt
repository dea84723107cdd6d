use Rattle.asn1_schema_laws.proofs.Joined.{raised}
use Rattle.asn1_table_laws.proofs.Choices.{close_stuck}
use Rattle.asn1_table_walker.proofs.ChoiceTurns.{closing_told}
use Rattle.asn1_table_walker.proofs.choices.turn_closing.Goals as goal

pub returns-in_err-end-clause-only : goal.returns-in_err-end-clause-only
returns-in_err-end-clause-only g c = raised _ _ _ c.from_residual.ensures.1 (close_stuck c.in_err-end.ensures.only)

pub returns-clause-ok : goal.returns-clause-ok
returns-clause-ok g c = λ ns. rw c.in_ok-keep.ensures.same (closing_told _ ns _ _ c.in_ok-end.ensures.ok c.in_ok-keep.ensures.kept)
