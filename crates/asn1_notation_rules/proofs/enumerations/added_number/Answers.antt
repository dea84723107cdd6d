use Rattle.std.proofs.Common.{rules, sym, ◌∙◌, FitsSigned, w64}
use Rattle.std.proofs.lemmas.Int.{to_z-of_z}
use Rattle.asn1_notation_rules.proofs.Numbering.{added_not_above, added_twice}
use Rattle.asn1_notation_rules.proofs.enumerations.added_number.Goals as goal

pub returns-then-contains : goal.returns-then-contains
returns-then-contains c =
    let fits : FitsSigned w64 c.in-Some.number = search rules in
    let h = simp to_z-of_z at (sym c.contains.ensures.value ∙ c.if-contains.true) in
    added_twice c.args.root.now c.args.before.now c.args.item c.in-Some.number c.in-Some.is h

pub returns-then-not-is_above : goal.returns-then-not-is_above
returns-then-not-is_above c =
    let fits : FitsSigned w64 c.in-Some.number = search rules in
    let h = simp to_z-of_z at (sym c.contains.ensures.value ∙ c.if-contains.false) in
    let above = simp to_z-of_z at c.is_above.ensures in
    added_not_above c.args.root.now c.args.before.now c.args.item c.in-Some.number c.copied-last.result c.is_above.result c.in-Some.is
    h (c.copied-last.ensures ∙ c.last.ensures.value) above c.if-not-is_above.true
