use Rattle.std.proofs.Common.{◌≡◌, ◌-◌, ℕ, List, ◌++◌, length, take, drop, flat_map, ap, sym, ◌∙◌, arith}
use Rattle.std.proofs.lemmas.List.{take_all, take-append-drop, length-drop}
use Rattle.per_codec_writing.specs.Characters.{low_bits}
use Rattle.per_codec_packing.specs.FieldLists.{as_field_list}
use Rattle.per_codec_writing.specs.Writing.{plus}
use Rattle.per_codec_writing.proofs.UnitFieldLists.{low_bits_moved, low_octets, no_low_bits}
use Rattle.per_codec_writing.proofs.number_units.push_low_bits.Goals as goal

pub returns-then-base-eq0 : goal.returns-then-base-eq0
returns-then-base-eq0 c =
    let os : List ℕ = c.args.octets.now in
    c.in_ok-extend_from_bytes.ensures.ok ∙ ap (λ bs. plus c.args.output.now (as_field_list bs)) (low_octets os)
    ∙ ap (λ w. plus c.args.output.now (as_field_list (flat_map (low_bits 0 w) os))) (sym c.if-width-eq8.true)
    ∙ ap (λ b. plus c.args.output.now (as_field_list (flat_map (low_bits b c.args.width) os))) (sym c.if-base-eq0.true)

pub loop-rest-preserved : goal.loop-rest-preserved
loop-rest-preserved c =
    let rest : List ℕ = c.loop-rest.rest.now in
    let few : ℕ = c.min-few.result in
    let whole : take (length rest - few) (drop few rest) ≡ drop few rest = take_all (length rest - few) (drop few rest) (omega (arith, length-drop few rest)) in
    let joined : take few rest ++ take (length rest - few) (drop few rest) ≡ rest = ap (λ l. take few rest ++ l) whole ∙ take-append-drop few rest in
    low_bits_moved (low_bits c.args.base c.args.width) rest _ _ _ c.loop-rest.output c.push_bits.new.self _ joined c.loop-rest.invariant
    c.joined_bits-number.ensures.digits c.in_ok-push_bits.ensures.ok

pub returns : goal.returns
returns c = no_low_bits (low_bits c.args.base c.args.width) c.loop-rest.rest.now c.loop-rest.output _ c.loop-rest-test.false c.loop-rest.invariant
