use Rattle.std.specs.Prelude.{FitsSigned, ◌+ℤ◌}
use Rattle.std.specs.Int.{w128}
use Rattle.std.proofs.Common.{Some, pos, rules, arith}
use Rattle.std.proofs.lemmas.Int.{ints, to_z-of_z}
use Rattle.std.proofs.lemmas.Result.{err_from_is_err_and}
use Rattle.asn1_model.specs.Per
use Rattle.per_codec_reading.specs.Fronts.{freedoms, is_aligned}
use Rattle.per_codec_reading.proofs.Fronts.{misses_also}
use Rattle.per_codec_reading_values.specs.Integers.{in_128_bits}
use Rattle.per_codec_reading_values.proofs.WholeFronts.{between_missed}
use Rattle.per_codec_reading_values.proofs.FormFronts.{form_fits, form_read}
use Rattle.per_codec_reading_values.proofs.bounded.read_between_in_form.Goals as goal

pub returns-in_err-above-clause-only : goal.returns-in_err-above-clause-only
returns-in_err-above-clause-only c =
    let p = err_from_is_err_and c.from_residual.result c.from_residual.ensures.1 in
    let f = freedoms c.args.rules in
    let al = is_aligned c.args.rules in
    let a = c.args.cursor.now in
    let form = c.args.form.now in
    let span = c.span.result in
    rw (p.1, p.2) (misses_also f (Per.constrained al span) (in_128_bits (Per.whole_number al (Some form.low) (Some form.high))) a a _
    (between_missed f al form.low form.high span a (omega (arith, ints, c.span.ensures))) c.in_err-above.ensures.only)

pub overflow_add-result : goal.overflow_add-result
overflow_add-result c =
    let form = c.args.form.now in
    let low : FitsSigned w128 c.low.result = search rules in
    let above : FitsSigned w128 c.from.result = search rules in
    let same = c.low.ensures in
    rw (to_z-of_z w128 c.low.result low, to_z-of_z w128 c.from.result above, c.from.ensures, same)
    (form_fits form.low form.high c.span.result c.in_ok-above.above form.octets (rw same at low) form.fixed c.span.ensures c.in_ok-above.ensures.bound)

pub returns-clause-ok : goal.returns-clause-ok
returns-clause-ok c =
    let form = c.args.form.now in
    let low : FitsSigned w128 c.low.result = search rules in
    let above : FitsSigned w128 c.from.result = search rules in
    let same = c.low.ensures in
    let d = c.in_ok-above.above in
    let sum = form_fits form.low form.high c.span.result d form.octets (rw same at low) form.fixed c.span.ensures c.in_ok-above.ensures.bound in
    rw (to_z-of_z w128 c.low.result low, to_z-of_z w128 c.from.result above, c.from.ensures, same, to_z-of_z w128 (form.low +ℤ pos d) sum)
    (form_read (freedoms c.args.rules) (is_aligned c.args.rules) form.low form.high c.span.result d c.args.cursor.now c.read_offset.new.cursor c.span.ensures sum
    c.in_ok-above.ensures.ok)
