use Rattle.std.proofs.Common.{rules, ◌≡◌, ◌+◌, [], ◌∷◌, ◌++◌, None, get_or, take, sym, subst, FitsSigned, w64}
use Rattle.std.proofs.lemmas.Int.{to_z-of_z}
use Rattle.std.proofs.lemmas.List.{get_or_default}
use Rattle.asn1_notation_rules.specs.Enumerations.{AreNumbered, IsAddedNumber}
use Rattle.asn1_notation_rules.proofs.Numbering.{numbered_step}
use Rattle.asn1_notation_rules.proofs.enumerations.added_numbers.Goals as goal

pub loop-index-preserved : goal.loop-index-preserved
loop-index-preserved c =
    let items = c.args.items.now in
    let k = c.loop-index.index in
    let i = get_or items k None in
    let n = c.in-Ok.number in
    let before = c.loop-index.numbers.items in
    let R = IsAddedNumber c.args.root.now in
    let fits : FitsSigned w64 c.in-Ok.number = search rules in
    let raw = simp to_z-of_z at c.in_ok-push-in-Ok.ensures.items in
    let pushed : c.push.new.self.items ≡ before ++ n ∷ [] = raw in
    subst (λ l. AreNumbered R [] (take (k + 1) items) l) (sym pushed)
    (numbered_step R items k before i n c.loop-index.invariant c.loop-index-test.true
    (get_or_default items k None i c.loop-index-test.true)
    (subst (λ b. IsAddedNumber c.args.root.now b i n) c.as_slice.ensures.value c.in-Ok.ensures))
