use Rattle.std.proofs.Common.{arith}
use Rattle.std.proofs.lemmas.Result.{err_from_is_err_and}
use Rattle.per_codec_reading.specs.Fronts.{freedoms}
use Rattle.per_codec_reading.proofs.NumberFronts.{within_read, within_short, within_above}
use Rattle.per_codec_reading.proofs.numbers.read_number_within.Goals as goal

pub returns-in_err-number-clause-only : goal.returns-in_err-number-clause-only
returns-in_err-number-clause-only c =
    let p = err_from_is_err_and c.from_residual.result c.from_residual.ensures.1 in
    let q = c.in_err-number.ensures.short in
    rw (p.1, p.2, q.0) (within_short (freedoms c.args.rules) c.args.bits c.args.most c.args.cursor.now q.1)

pub returns-then-number-most-clause-only : goal.returns-then-number-most-clause-only
returns-then-number-most-clause-only c =
    let l = c.if-number-most.true in
    within_above (freedoms c.args.rules) c.args.bits c.args.most c.in_ok-number.number c.args.cursor.now c.take_number.new.self (omega arith) c.in_ok-number.ensures.fits c.in_ok-number.ensures.digits

pub returns-clause-ok : goal.returns-clause-ok
returns-clause-ok c =
    let l = c.if-number-most.false in
    within_read (freedoms c.args.rules) c.args.bits c.args.most c.in_ok-number.number c.args.cursor.now c.take_number.new.self (omega arith) c.in_ok-number.ensures.fits c.in_ok-number.ensures.digits
