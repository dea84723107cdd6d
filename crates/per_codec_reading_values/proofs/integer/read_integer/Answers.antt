use Rattle.std.proofs.Common.{true, None, Some}
use Rattle.std.specs.Int.{w128}
use Rattle.std.proofs.lemmas.Int.{to_z-of_z}
use Rattle.std.proofs.lemmas.Result.{err_from_is_err_and}
use Rattle.asn1_model.specs.Per
use Rattle.per_codec_reading.specs.Fronts.{freedoms, is_aligned}
use Rattle.per_codec_reading.proofs.Fronts.{misses_also}
use Rattle.per_codec_reading_values.specs.Integers.{number_octets, in_128_bits, under_constraint}
use Rattle.per_codec_reading_values.proofs.IntegerFronts.{Integer, no_plain, plain_read, plain_refused, no_bounded, bounded_read, bounded_refused}
use Rattle.per_codec_reading_values.proofs.WholeFronts.{wide_in_front}
use Rattle.per_codec_reading_values.proofs.integer.read_integer.Goals as goal

pub returns-in_default-clause-ok : goal.returns-in_default-clause-ok
returns-in_default-clause-ok g c = rw c.in_default.is c.read_any_integer.ensures.ok

pub returns-in_default-clause-only : goal.returns-in_default-clause-only
returns-in_default-clause-only g c = rw c.in_default.is c.read_any_integer.ensures.only

pub returns-in_err-number-clause-only : goal.returns-in_err-number-clause-only
returns-in_err-number-clause-only g c =
    let p = err_from_is_err_and c.from_residual.result c.from_residual.ensures.1 in
    let f = freedoms c.args.rules in
    let al = is_aligned c.args.rules in
    let a = c.args.cursor.now in
    let h = g.I.IntegerType.held in
    let k = c.in-Some.constraint in
    rw (p.1, p.2, c.in-Some.is) (misses_also f (in_128_bits (under_constraint al k)) (Integer f al (Some k) h) a a _ (no_bounded f al k h a) c.in_err-number.ensures.only)

pub returns-clause-ok : goal.returns-clause-ok
returns-clause-ok g c =
    let f = freedoms c.args.rules in
    let al = is_aligned c.args.rules in
    let a = c.args.cursor.now in
    let k = c.in-Some.constraint in
    let b = c.read_bounded.new.cursor in
    let q = to_z-of_z w128 c.in_ok-number.number (wide_in_front f (under_constraint al k) c.in_ok-number.number a b c.in_ok-number.ensures.ok) in
    rw c.in-Some.is (bounded_read f al k c.held_number.result g.I.IntegerType.value g.I.IntegerType.held c.in_ok-number.number _ a b q
    c.held_number.ensures.value c.held_number.ensures.held c.in_ok-number.ensures.ok)

pub returns-clause-only : goal.returns-clause-only
returns-clause-only g c =
    let f = freedoms c.args.rules in
    let al = is_aligned c.args.rules in
    let a = c.args.cursor.now in
    let k = c.in-Some.constraint in
    let b = c.read_bounded.new.cursor in
    let q = to_z-of_z w128 c.in_ok-number.number (wide_in_front f (under_constraint al k) c.in_ok-number.number a b c.in_ok-number.ensures.ok) in
    rw c.in-Some.is (bounded_refused f al k c.held_number.result g.I.IntegerType.held c.in_ok-number.number _ a b q c.held_number.ensures.refused c.held_number.ensures.fresh c.in_ok-number.ensures.ok)
