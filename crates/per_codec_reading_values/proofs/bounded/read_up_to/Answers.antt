use Rattle.std.specs.Prelude.{◌<ℤ◌, ◌≤ℤ◌}
use Rattle.std.specs.Int.{w128}
use Rattle.std.proofs.Common.{None, Some, sym, subst, arith}
use Rattle.std.proofs.lemmas.Int.{ints, to_z-of_z}
use Rattle.std.proofs.lemmas.Result.{err_from_is_err_and}
use Rattle.asn1_model.specs.Per
use Rattle.per_codec_laws.specs.Takes.{Front}
use Rattle.per_codec_reading.specs.Fronts.{freedoms, is_aligned}
use Rattle.per_codec_reading.proofs.Fronts.{misses_also}
use Rattle.per_codec_reading_values.specs.Integers.{in_128_bits}
use Rattle.per_codec_reading_values.proofs.WholeFronts.{wide_in_front, up_to_read, up_to_missed, up_to_above}
use Rattle.per_codec_reading_values.proofs.bounded.read_up_to.Goals as goal

pub returns-in_err-number-clause-only : goal.returns-in_err-number-clause-only
returns-in_err-number-clause-only c =
    let p = err_from_is_err_and c.from_residual.result c.from_residual.ensures.1 in
    let f = freedoms c.args.rules in
    let al = is_aligned c.args.rules in
    let a = c.args.cursor.now in
    rw (p.1, p.2) (misses_also f (in_128_bits (Per.unconstrained al)) (in_128_bits (Per.whole_number al None (Some c.args.high))) a a _ (up_to_missed f al c.args.high a) c.in_err-number.ensures.only)

pub returns-then-number-high-clause-only : goal.returns-then-number-high-clause-only
returns-then-number-high-clause-only c =
    let f = freedoms c.args.rules in
    let al = is_aligned c.args.rules in
    let high = c.ranges.high in
    let number = wide_in_front f (Per.unconstrained al) c.in_ok-number.number c.args.cursor.now c.read_unconstrained.new.cursor c.in_ok-number.ensures.ok in
    let l : c.args.high <ℤ c.in_ok-number.number = grind (arith, ints, c.if-number-high.true) in
    up_to_above f al c.args.high c.in_ok-number.number c.args.cursor.now c.read_unconstrained.new.cursor l c.in_ok-number.ensures.ok

pub returns-clause-ok : goal.returns-clause-ok
returns-clause-ok c =
    let f = freedoms c.args.rules in
    let al = is_aligned c.args.rules in
    let a = c.args.cursor.now in
    let b = c.read_unconstrained.new.cursor in
    let high = c.ranges.high in
    let number = wide_in_front f (Per.unconstrained al) c.in_ok-number.number a b c.in_ok-number.ensures.ok in
    let l : c.in_ok-number.number ≤ℤ c.args.high = grind (arith, ints, c.if-number-high.false) in
    subst (λ z. Front f (in_128_bits (Per.whole_number al None (Some c.args.high)) z) a b) (sym (to_z-of_z w128 c.in_ok-number.number number))
    (up_to_read f al c.args.high c.in_ok-number.number a b l c.in_ok-number.ensures.ok)
