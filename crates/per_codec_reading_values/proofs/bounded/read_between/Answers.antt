use Rattle.std.specs.Prelude.{◌<ℤ◌, ◌≤ℤ◌}
use Rattle.std.specs.Int.{w128}
use Rattle.std.proofs.Common.{Some, arith}
use Rattle.std.proofs.lemmas.Int.{ints, to_z-of_z}
use Rattle.std.proofs.lemmas.Result.{err_from_is_err_and}
use Rattle.asn1_model.specs.Per
use Rattle.per_codec_reading.specs.Fronts.{freedoms, is_aligned}
use Rattle.per_codec_reading.proofs.Fronts.{misses_also}
use Rattle.per_codec_reading_values.specs.Integers.{in_128_bits}
use Rattle.per_codec_reading_values.proofs.WholeFronts.{none_between, between_missed, between_answer, between_refused, span_told}
use Rattle.per_codec_reading_values.proofs.bounded.read_between.Goals as goal

pub returns-then-high-low-clause-only : goal.returns-then-high-low-clause-only
returns-then-high-low-clause-only c =
    let low = c.ranges.low in
    let high = c.ranges.high in
    let l : c.args.high <ℤ c.args.low = grind (arith, ints, c.if-high-low.true) in
    none_between (freedoms c.args.rules) (is_aligned c.args.rules) c.args.low c.args.high c.args.cursor.now l

pub returns-in_err-above-clause-only : goal.returns-in_err-above-clause-only
returns-in_err-above-clause-only c =
    let p = err_from_is_err_and c.from_residual.result c.from_residual.ensures.1 in
    let f = freedoms c.args.rules in
    let al = is_aligned c.args.rules in
    let a = c.args.cursor.now in
    let low = c.ranges.low in
    let high = c.ranges.high in
    let n : c.args.low ≤ℤ c.args.high = grind (arith, ints, c.if-high-low.false) in
    let s = simp to_z-of_z at c.abs_diff.ensures in
    let e = span_told c.args.low c.args.high c.abs_diff.result n s in
    rw (p.1, p.2) (misses_also f (Per.constrained al c.abs_diff.result) (in_128_bits (Per.whole_number al (Some c.args.low) (Some c.args.high))) a a _
    (between_missed f al c.args.low c.args.high c.abs_diff.result a e) c.in_err-above.ensures.only)

pub returns-clause-ok : goal.returns-clause-ok
returns-clause-ok c =
    let low = c.ranges.low in
    let high = c.ranges.high in
    let n : c.args.low ≤ℤ c.args.high = grind (arith, ints, c.if-high-low.false) in
    let s = simp to_z-of_z at c.abs_diff.ensures in
    let e = span_told c.args.low c.args.high c.abs_diff.result n s in
    between_answer (freedoms c.args.rules) (is_aligned c.args.rules) c.number_above.result c.args.low _ c.args.high c.abs_diff.result
    c.in_ok-above.above c.args.cursor.now c.read_constrained.new.cursor (to_z-of_z w128 c.args.low c.ranges.low) e c.number_above.ensures.number
    c.number_above.ensures.held c.in_ok-above.ensures.ok

pub returns-clause-only : goal.returns-clause-only
returns-clause-only c =
    let low = c.ranges.low in
    let high = c.ranges.high in
    let n : c.args.low ≤ℤ c.args.high = grind (arith, ints, c.if-high-low.false) in
    let s = simp to_z-of_z at c.abs_diff.ensures in
    let e = span_told c.args.low c.args.high c.abs_diff.result n s in
    between_refused (freedoms c.args.rules) (is_aligned c.args.rules) c.number_above.result c.args.low _ c.args.high c.abs_diff.result
    c.in_ok-above.above c.args.cursor.now c.read_constrained.new.cursor (to_z-of_z w128 c.args.low c.ranges.low) e c.number_above.ensures.refused
    c.number_above.ensures.fresh c.in_ok-above.ensures.ok
