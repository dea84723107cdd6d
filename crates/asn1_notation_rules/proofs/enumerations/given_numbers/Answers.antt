use Rattle.std.proofs.Common.{rules, ◌≡◌, [], ◌∷◌, ◌++◌, None, get_or, FitsSigned, w64}
use Rattle.std.proofs.lemmas.Int.{to_z-of_z}
use Rattle.std.proofs.lemmas.List.{get_or_default}
use Rattle.asn1_notation_rules.proofs.Numbering.{given_none, given_some}
use Rattle.asn1_notation_rules.proofs.enumerations.given_numbers.Goals.{in-Some+in_ok-push-in-Some, in-None}
use Rattle.asn1_notation_rules.proofs.enumerations.given_numbers.Goals as goal

pub loop-item-preserved : goal.loop-item-preserved
loop-item-preserved c =
    let items = c.args.items.now in
    let k = c.loop-item.item-index in
    let i = get_or items k None in
    let e = get_or_default items k None i c.loop-item-test.true in
    elim c.match-item.branch [
      | in-Some+in_ok-push-in-Some w ↦
          let fits : FitsSigned w64 w.in-Some.number = search rules in
          let raw = simp to_z-of_z at w.in_ok-push-in-Some.ensures.items in
          let pushed : w.push.new.self.items ≡ c.loop-item.given.items ++ w.in-Some.number ∷ [] = raw in
          rw (w.given-is, pushed)
          (given_some items k i c.loop-item.given.items w.in-Some.number c.loop-item.invariant c.loop-item-test.true e w.in-Some.is)
      | in-None w ↦ rw w.given-is (given_none items k i c.loop-item.given.items c.loop-item.invariant c.loop-item-test.true e w.in-None.is)
    ]
