use Rattle.std.proofs.Common.{rules, sym, ◌∙◌, FitsSigned, w64}
use Rattle.std.proofs.lemmas.Int.{to_z-of_z}
use Rattle.asn1_notation_rules.proofs.Numbering.{root_twice}
use Rattle.asn1_notation_rules.proofs.enumerations.root_number.Goals as goal

pub returns-then-contains : goal.returns-then-contains
returns-then-contains c =
    let fits : FitsSigned w64 c.in-Some.number = search rules in
    let h = simp to_z-of_z at (sym c.contains.ensures.value ∙ c.if-contains.true) in
    root_twice c.args.given.now c.args.before.now c.args.item c.in-Some.number c.in-Some.is h
