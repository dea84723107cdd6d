use Rattle.asn1_table_types.specs.Flaws.{choice_lacks, is_choice_table}
use Rattle.asn1_table_nodes.specs.Meaning.{alternatives_of, type_at}
use Rattle.asn1_table_types.proofs.Refused.{raised_of, holds_of}
use Rattle.asn1_table_types.proofs.choices.check_choice.Goals as goal

pub returns-in_err-check_both-clause-lacking : goal.returns-in_err-check_both-clause-lacking
returns-in_err-check_both-clause-lacking c =
    raised_of (λ xs ys f. choice_lacks f (alternatives_of (λ i. type_at c.args.nodes.now 1 i) xs) c.args.table.now.is_extensible (alternatives_of (λ i. type_at c.args.nodes.now 1 i) ys))
    _ _ c.as_slice.ensures.value c.as_slice-2.ensures.value c.from_residual.ensures.1 c.in_err-check_both.ensures.lacking

pub returns-clause-sound : goal.returns-clause-sound
returns-clause-sound c =
    holds_of (λ xs ys. is_choice_table (alternatives_of (λ i. type_at c.args.nodes.now 1 i) xs) c.args.table.now.is_extensible (alternatives_of (λ i. type_at c.args.nodes.now 1 i) ys))
    c.as_slice.ensures.value c.as_slice-2.ensures.value c.in_ok-check_both.ensures.sound
