use Rattle.std.proofs.lemmas.Bool.{or_left, or_right}
use Rattle.asn1_table_types.proofs.Refused.{raised}
use Rattle.asn1_table_types.proofs.components.check_each.Goals as goal

pub returns-in_err-check_components-clause-lacking : goal.returns-in_err-check_components-clause-lacking
returns-in_err-check_components-clause-lacking c =
    raised _ _ _ _ c.from_residual.ensures.1 (λ f h. or_left _ _ h) c.in_err-check_components.ensures.lacking

pub returns-in_err-check_components-2-clause-lacking : goal.returns-in_err-check_components-2-clause-lacking
returns-in_err-check_components-2-clause-lacking c =
    raised _ _ _ _ c.from_residual-in_err-check_components-2.ensures.1 (λ f h. or_right _ _ h) c.in_err-check_components-2.ensures.lacking
