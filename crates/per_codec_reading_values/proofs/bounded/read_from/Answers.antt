use Rattle.std.proofs.Common.{Some, None}
use Rattle.std.specs.Int.{w128}
use Rattle.std.proofs.lemmas.Int.{to_z-of_z}
use Rattle.std.proofs.lemmas.Result.{err_from_is_err_and}
use Rattle.asn1_model.specs.Per
use Rattle.per_codec_reading.specs.Fronts.{freedoms, is_aligned}
use Rattle.per_codec_reading.proofs.Fronts.{misses_also}
use Rattle.per_codec_reading_values.specs.Integers.{in_128_bits, offset_form}
use Rattle.per_codec_reading_values.proofs.WholeFronts.{fits_wide, from_missed, from_answer, from_refused}
use Rattle.per_codec_reading_values.proofs.bounded.read_from.Goals as goal

pub returns-in_err-above-clause-only : goal.returns-in_err-above-clause-only
returns-in_err-above-clause-only c =
    let p = err_from_is_err_and c.from_residual.result c.from_residual.ensures.1 in
    let f = freedoms c.args.rules in
    let al = is_aligned c.args.rules in
    let a = c.args.cursor.now in
    rw (p.1, p.2) (misses_also f (offset_form al) (in_128_bits (Per.whole_number al (Some c.args.low) None)) a a _
    (from_missed f al c.args.low a (fits_wide c.args.low c.ranges.low)) c.in_err-above.ensures.only)

pub returns-clause-ok : goal.returns-clause-ok
returns-clause-ok c = from_answer (freedoms c.args.rules) (is_aligned c.args.rules) c.number_above.result c.args.low _ c.in_ok-above.above
    c.args.cursor.now c.read_semi_constrained.new.cursor (to_z-of_z w128 c.args.low c.ranges.low) c.number_above.ensures.number c.number_above.ensures.held c.in_ok-above.ensures.ok

pub returns-clause-only : goal.returns-clause-only
returns-clause-only c = from_refused (freedoms c.args.rules) (is_aligned c.args.rules) c.number_above.result c.args.low _ c.in_ok-above.above
    c.args.cursor.now c.read_semi_constrained.new.cursor (to_z-of_z w128 c.args.low c.ranges.low) c.number_above.ensures.refused c.number_above.ensures.fresh c.in_ok-above.ensures.ok
