use Rattle.std.proofs.Common.{true, None, Some}
use Rattle.std.specs.Int.{w128}
use Rattle.std.proofs.lemmas.Int.{to_z-of_z}
use Rattle.std.proofs.lemmas.Result.{err_from_is_err_and}
use Rattle.asn1_model.specs.Per
use Rattle.per_codec_reading.specs.Fronts.{freedoms, is_aligned}
use Rattle.per_codec_reading.proofs.Fronts.{misses_also}
use Rattle.per_codec_reading_values.specs.Integers.{number_octets, in_128_bits, under_constraint}
use Rattle.per_codec_reading_values.proofs.IntegerFronts.{Integer, no_plain, plain_read, plain_refused, no_bounded, bounded_read, bounded_refused}
use Rattle.per_codec_reading_values.proofs.WholeFronts.{wide_in_front}
use Rattle.per_codec_reading_values.proofs.integer.read_any_integer.Goals as goal

pub returns-in_err-octets-clause-only : goal.returns-in_err-octets-clause-only
returns-in_err-octets-clause-only g c =
    let p = err_from_is_err_and c.from_residual.result c.from_residual.ensures.1 in
    let f = freedoms c.args.rules in
    let al = is_aligned c.args.rules in
    let a = c.args.cursor.now in
    let h = g.I.IntegerType.held in
    rw (p.1, p.2) (misses_also f (number_octets (f Per.longer_number) true al) (Integer f al None h) a a _ (no_plain f al h a) c.in_err-octets.ensures.only)

pub returns-clause-ok : goal.returns-clause-ok
returns-clause-ok g c =
    let f = freedoms c.args.rules in
    let al = is_aligned c.args.rules in
    let a = c.args.cursor.now in
    let h = g.I.IntegerType.held in
    let v = c.as_slice.ensures.value in
    (plain_read f al c.number_from_octets.result g.I.IntegerType.value h c.as_slice.result.now a c.read_number_octets.new.cursor
    c.number_from_octets.ensures.value c.number_from_octets.ensures.held (rw v c.in_ok-octets.ensures.ok))

pub returns-clause-only : goal.returns-clause-only
returns-clause-only g c =
    let f = freedoms c.args.rules in
    let al = is_aligned c.args.rules in
    let a = c.args.cursor.now in
    let h = g.I.IntegerType.held in
    let v = c.as_slice.ensures.value in
    (plain_refused f al c.number_from_octets.result h c.as_slice.result.now a c.read_number_octets.new.cursor
    c.number_from_octets.ensures.refused c.number_from_octets.ensures.fresh (rw v c.in_ok-octets.ensures.ok))
