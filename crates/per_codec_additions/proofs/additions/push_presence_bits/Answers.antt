use Rattle.std.proofs.Common.{◌≡◌, ◌-◌, ◌≤◌, ℕ, List, ◌++◌, length, take, drop, map, ap, sym, ◌∙◌, arith}
use Rattle.std.proofs.lemmas.List.{take_all, take-append-drop, length-drop, length-take-le}
use Rattle.asn1_model.specs.Numbers.{binary}
use Rattle.per_codec_additions.specs.Slots.{is_there}
use Rattle.per_codec_additions.specs.declared.slots.Slot.{Slot}
use Rattle.per_codec_additions.proofs.AdditionFieldLists.{presence_moved, no_presence}
use Rattle.per_codec_additions.proofs.additions.push_presence_bits.Goals as goal

pub loop-rest-preserved : goal.loop-rest-preserved
loop-rest-preserved c =
    let rest : List Slot = c.loop-rest.rest.now in
    let few : ℕ = c.min-few.result in
    let whole : take (length rest - few) (drop few rest) ≡ drop few rest = take_all (length rest - few) (drop few rest) (omega (arith, length-drop few rest)) in
    let joined : take few rest ++ take (length rest - few) (drop few rest) ≡ rest = ap (λ l. take few rest ++ l) whole ∙ take-append-drop few rest in
    let number : ℕ = c.presence_number.result in
    let within : few ≤ length rest = omega (arith, c.min-few.ensures) in
    let told : binary few number ≡ map is_there (take few rest) = ap (λ n. binary n number) (sym (length-take-le few rest within)) ∙ c.presence_number.ensures in
    presence_moved rest _ _ _ c.loop-rest.output c.push_bits.new.self _ joined c.loop-rest.invariant told c.in_ok-push_bits.ensures.ok

pub returns : goal.returns
returns c = no_presence c.loop-rest.rest.now c.loop-rest.output _ c.loop-rest-test.false c.loop-rest.invariant
