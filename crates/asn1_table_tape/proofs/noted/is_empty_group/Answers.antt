use Rattle.std.proofs.Common.{◌≡◌, ◌∙◌, sym, ap, true, false, Some}
use Rattle.std.specs.List.{list_all}
use Rattle.std.specs.Option.{option_copied}
use Rattle.std.proofs.lemmas.List.{take_rest}
use Rattle.asn1_table_tape.specs.Values.{is_absence}
use Rattle.asn1_table_tape.proofs.Leaving.{group_at}
use Rattle.asn1_table_tape.proofs.noted.is_empty_group.Goals as goal

pub returns-then-not-is_empty : goal.returns-then-not-is_empty
returns-then-not-is_empty c = λ n v f e.
    let q = sym c.node.ensures ∙ ap option_copied c.in-Some-Group.is ∙ ap Some c.in-Some-Group.field-0-is in
    c.are_absent.ensures ∙ ap (λ es. list_all is_absence es) (take_rest c.args.value.now 1)
    ∙ (group_at c.args.types.now.nodes.items c.args.value.now c.in-Some-Group.field-0-0 c.args.index q c.args.types.now.lawful n v f e).0

pub returns-else-not-is_empty : goal.returns-else-not-is_empty
returns-else-not-is_empty c = λ n v f e.
    let q = sym c.node.ensures ∙ ap option_copied c.in-Some-Group.is ∙ ap Some c.in-Some-Group.field-0-is in
    let there = (group_at c.args.types.now.nodes.items c.args.value.now c.in-Some-Group.field-0-0 c.args.index q c.args.types.now.lawful n v f e).1 in
    let z : true ≡ false = c.if-not-is_empty.ensures ∙ there in
    absurd (let y : true ≡ false = z in cc)
