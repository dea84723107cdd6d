use Rattle.std.proofs.Common.{◌∙◌, refl, sym, ap, ◌&&◌, Some}
use Rattle.asn1_table_nodes.specs.declared.nodes.TypeNode.TheVariants.{Sequence, Set, Group}
use Rattle.asn1_table_nodes.specs.Defaults.{has_defaults, have_defaults}
use Rattle.asn1_table_nodes.specs.Meaning.{components_of, type_of, type_at}
use Rattle.asn1_table_nodes.proofs.Deciding.{decides_by, decides_below}
use Rattle.asn1_table_nodes.proofs.defaults.has_right_defaults.Goals as goal

pub returns-in-Sequence : goal.returns-in-Sequence
returns-in-Sequence c =
    let ns = c.args.nodes.now in
    decides_by _ (λ n. has_defaults (type_of ns n (Some (Sequence c.in-Sequence.table)))) c.are_both_right.result (λ n. ap (λ x. has_defaults (type_of ns n (Some x))) c.in-Sequence.is)
    (decides_below _ (λ n. have_defaults (components_of (λ j. type_at ns n j) c.as_slice.result.now) &&
    have_defaults (components_of (λ j. type_at ns n j) c.as_slice-in-Sequence.result.now)) c.are_both_right.result refl
    (λ n. ap (λ xs. have_defaults (components_of (λ j. type_at ns n j) xs) && have_defaults (components_of (λ j. type_at ns n j) c.in-Sequence.table.additions.items)) (sym c.as_slice.ensures.value)
    ∙ ap (λ xs. have_defaults (components_of (λ j. type_at ns n j) c.as_slice.result.now) && have_defaults (components_of (λ j. type_at ns n j) xs)) (sym c.as_slice-in-Sequence.ensures.value))
    c.are_both_right.ensures)

pub returns-in-Set : goal.returns-in-Set
returns-in-Set c =
    let ns = c.args.nodes.now in
    decides_by _ (λ n. has_defaults (type_of ns n (Some (Set c.in-Set.table)))) c.are_both_right-in-Set.result (λ n. ap (λ x. has_defaults (type_of ns n (Some x))) c.in-Set.is)
    (decides_below _ (λ n. have_defaults (components_of (λ j. type_at ns n j) c.as_slice-in-Set.result.now) &&
    have_defaults (components_of (λ j. type_at ns n j) c.as_slice-in-Set-2.result.now)) c.are_both_right-in-Set.result refl
    (λ n. ap (λ xs. have_defaults (components_of (λ j. type_at ns n j) xs) && have_defaults (components_of (λ j. type_at ns n j) c.in-Set.table.additions.items)) (sym c.as_slice-in-Set.ensures.value)
    ∙ ap (λ xs. have_defaults (components_of (λ j. type_at ns n j) c.as_slice-in-Set.result.now) && have_defaults (components_of (λ j. type_at ns n j) xs)) (sym c.as_slice-in-Set-2.ensures.value))
    c.are_both_right-in-Set.ensures)

pub returns-in-Group : goal.returns-in-Group
returns-in-Group c =
    let ns = c.args.nodes.now in
    decides_by _ (λ n. has_defaults (type_of ns n (Some (Group c.in-Group.components)))) c.are_right.result (λ n. ap (λ x. has_defaults (type_of ns n (Some x))) c.in-Group.is)
    (decides_below _ (λ n. have_defaults (components_of (λ j. type_at ns n j) c.as_slice-in-Group.result.now)) c.are_right.result refl
    (λ n. ap (λ xs. have_defaults (components_of (λ j. type_at ns n j) xs)) (sym c.as_slice-in-Group.ensures.value))
    c.are_right.ensures)
