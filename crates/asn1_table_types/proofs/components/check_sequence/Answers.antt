use Rattle.asn1_table_types.specs.Flaws.{table_lacks, is_table}
use Rattle.asn1_table_nodes.specs.Meaning.{components_of, type_at}
use Rattle.asn1_table_types.proofs.Refused.{raised_of, holds_of}
use Rattle.asn1_table_types.proofs.components.check_sequence.Goals as goal

pub returns-in_err-check_table-clause-lacking : goal.returns-in_err-check_table-clause-lacking
returns-in_err-check_table-clause-lacking c =
    raised_of (λ xs ys f. table_lacks f (components_of (λ i. type_at c.args.nodes.now 1 i) xs) c.args.table.now.is_extensible (components_of (λ i. type_at c.args.nodes.now 1 i) ys))
    _ _ c.as_slice.ensures.value c.as_slice-2.ensures.value c.from_residual.ensures.1 c.in_err-check_table.ensures.lacking

pub returns-clause-sound : goal.returns-clause-sound
returns-clause-sound c =
    holds_of (λ xs ys. is_table (components_of (λ i. type_at c.args.nodes.now 1 i) xs) c.args.table.now.is_extensible (components_of (λ i. type_at c.args.nodes.now 1 i) ys))
    c.as_slice.ensures.value c.as_slice-2.ensures.value c.in_ok-check_table.ensures.sound
