use Rattle.std.proofs.Common.{◌≡◌, refl, sym, ap, ◌+◌, length, map, arith}
use Rattle.std.specs.Option.{option_map_or}
use Rattle.std.proofs.lemmas.Bool.{ltb-false}
use Rattle.std.proofs.lemmas.Option.{slice_get_past, slice_get_read}
use Rattle.asn1_laws_values.proofs.Counts.{count, one_if}
use Rattle.asn1_model.specs.Value.{same, values_of}
use Rattle.asn1_table_nodes.specs.Values.{value_of}
use Rattle.asn1_table_nodes.proofs.Values.{values_end}
use Rattle.asn1_table_tape.proofs.Behind.{at_most_one, counted_step}
use Rattle.asn1_table_tape.proofs.defaults.count_alike.Goals as goal
use Rattle.asn1_table_tape.proofs.defaults.count_alike.Goals.{then-is_same_value, else-is_same_value}

pub returns-in_default : goal.returns-in_default
returns-in_default c =
    let ds = c.args.values.now in
    sym (ap (λ o. option_map_or (λ d. count (λ x. same (value_of d) x) (values_of (map value_of ds))) o 0)
    (slice_get_past ds c.args.index (ltb-false c.args.index (length ds) (sym c.in_default.ensures.lookup.0))))

pub loop-other-preserved : goal.loop-other-preserved
loop-other-preserved c =
    let v = value_of c.in-Some.value.now in
    let d = c.other-item.result in
    let b = c.is_same_value.result in
    let step = counted_step v c.args.values.now c.loop-other.other-index d c.loop-other-test.true c.other-item.is in
    let told : one_if (same v (value_of d)) ≡ one_if b = ap one_if (sym c.is_same_value.ensures) in
    let added : c.if-is_same_value.count ≡ c.loop-other.count + one_if b = elim c.if-is_same_value.branch [
      | then-is_same_value w ↦ let o : one_if b ≡ 1 = ap one_if w.if-is_same_value.true in omega (arith, w.count-is, o)
      | else-is_same_value w ↦ let o : one_if b ≡ 0 = ap one_if w.if-is_same_value.false in omega (arith, w.count-is, o)
    ] in
    let small = at_most_one b in
    (omega (arith, c.loop-other.invariant.0, step, told, added), omega (arith, c.loop-other.invariant.1, added, small))

pub returns : goal.returns
returns c =
    let ds = c.args.values.now in
    let v = value_of c.in-Some.value.now in
    let e = ap (λ us. count (λ x. same v x) us) (values_end ds c.loop-other.other-index c.loop-other-test.false) in
    let q = slice_get_read ds (length ds) c.args.index c.in-Some.value.now refl c.in-Some.ensures.lookup.3.0 (c.in-Some.ensures.lookup.3.1 c.in-Some.value.now) in
    let g = ap (λ o. option_map_or (λ d. count (λ x. same (value_of d) x) (values_of (map value_of ds))) o 0) q in
    omega (arith, c.loop-other.invariant.0, e, g)
