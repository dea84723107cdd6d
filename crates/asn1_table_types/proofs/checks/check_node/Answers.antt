use Rattle.std.proofs.Common.{◌∙◌, refl, sym, ap, subst, Some, IfErr}
use Rattle.asn1_table_types.specs.Flaws.{is_sound, lacks, group_lacks, is_group_table}
use Rattle.asn1_table_nodes.specs.Meaning.{components_of, type_of, type_at}
use Rattle.asn1_table_types.specs.Tables.{IsDue}
use Rattle.asn1_table_types.proofs.Refused.{raised_of, holds_of}
use Rattle.asn1_table_types.proofs.checks.check_node.Goals as goal

pub returns-in_err-check_group-in-Group-clause-lacking : goal.returns-in_err-check_group-in-Group-clause-lacking
returns-in_err-check_group-in-Group-clause-lacking c =
    subst (λ x. IfErr c.from_residual-in_err-check_group-in-Group.result (λ r. IsDue (lacks (type_of c.args.nodes.now 2 (Some x))) r)) (sym c.in-Group.is)
    (raised_of (λ ns xs f. group_lacks f (components_of (λ i. type_at ns 1 i) xs)) _ _ refl c.as_slice.ensures.value
    c.from_residual-in_err-check_group-in-Group.ensures.1 c.in_err-check_group-in-Group.ensures.lacking)

pub returns-in_ok-check_group-in-Group-clause-sound : goal.returns-in_ok-check_group-in-Group-clause-sound
returns-in_ok-check_group-in-Group-clause-sound c =
    ap (λ x. is_sound (type_of c.args.nodes.now 2 (Some x))) c.in-Group.is
    ∙ holds_of (λ ns xs. is_group_table (components_of (λ i. type_at ns 1 i) xs)) refl c.as_slice.ensures.value c.in_ok-check_group-in-Group.ensures.sound
