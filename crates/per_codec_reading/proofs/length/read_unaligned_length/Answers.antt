use Rattle.std.proofs.Common.{arith, inl, inr, sym}
use Rattle.std.proofs.lemmas.Result.{err_from_is_err_and}
use Rattle.per_codec_reading.specs.Fronts.{freedoms}
use Rattle.per_codec_reading.proofs.LengthFronts.{no_first, no_second, no_fragment, short_read, long_read, not_two_octets, fragment_read}
use Rattle.per_codec_reading.proofs.length.read_unaligned_length.Goals.{then-multiple-lt1-via-then-multiple-lt1, then-multiple-lt1-via-else-multiple-lt1+then-multiple-gt4}
use Rattle.per_codec_reading.proofs.length.read_unaligned_length.Goals as goal

pub returns-in_err-first-clause-only : goal.returns-in_err-first-clause-only
returns-in_err-first-clause-only c =
    let p = err_from_is_err_and c.from_residual.result c.from_residual.ensures.1 in
    let q = c.in_err-first.ensures.short in
    rw (p.1, p.2, q.0) (no_first (freedoms c.args.rules) c.args.cursor.now q.1)

pub returns-then-first-lt128-clause-ok : goal.returns-then-first-lt128-clause-ok
returns-then-first-lt128-clause-ok c = short_read (freedoms c.args.rules) c.in_ok-first.field-0 c.args.cursor.now c.take_number.new.self c.if-first-lt128.true c.in_ok-first.ensures.digits

pub returns-in_err-second-clause-only : goal.returns-in_err-second-clause-only
returns-in_err-second-clause-only c =
    let p = err_from_is_err_and c.from_residual-in_err-second.result c.from_residual-in_err-second.ensures.1 in
    let q = c.in_err-second.ensures.short in
    let n = c.if-first-lt128.false in
    rw (p.1, p.2, q.0) (no_second (freedoms c.args.rules) c.in_ok-first.field-0 c.args.cursor.now c.take_number.new.self c.in_ok-first.ensures.fits
    (omega arith) c.if-first-lt192.true c.in_ok-first.ensures.digits q.1)

pub returns-then-first-lt192-clause-ok : goal.returns-then-first-lt192-clause-ok
returns-then-first-lt192-clause-ok c =
    let n = c.if-first-lt128.false in
    long_read (freedoms c.args.rules) c.in_ok-first.field-0 c.in_ok-second.field-0 c.args.cursor.now c.take_number.new.self
    c.take_number-then-first-lt192.new.self (sym c.if-not-is_accepted.ensures) (omega arith) c.if-first-lt192.true c.in_ok-second.ensures.fits
    c.in_ok-first.ensures.digits c.in_ok-second.ensures.digits

pub returns-then-not-is_accepted-clause-only : goal.returns-then-not-is_accepted-clause-only
returns-then-not-is_accepted-clause-only c =
    let n = c.if-first-lt128.false in
    not_two_octets (freedoms c.args.rules) c.in_ok-first.field-0 c.in_ok-second.field-0 c.args.cursor.now c.take_number.new.self
    c.take_number-then-first-lt192.new.self (sym c.if-not-is_accepted.ensures) (omega arith) c.if-first-lt192.true c.in_ok-second.ensures.fits
    c.in_ok-first.ensures.digits c.in_ok-second.ensures.digits

pub returns-then-multiple-lt1-clause-only : goal.returns-then-multiple-lt1-clause-only
returns-then-multiple-lt1-clause-only c =
    let n = c.if-first-lt192.false in
    let x = c.in_ok-first.field-0 in
    no_fragment (freedoms c.args.rules) x c.args.cursor.now c.take_number.new.self c.in_ok-first.ensures.fits (omega arith) c.in_ok-first.ensures.digits (elim c.then-multiple-lt1.branch [
      | then-multiple-lt1-via-then-multiple-lt1 w ↦ (let l = w.if-multiple-lt1 in inl (omega arith))
      | then-multiple-lt1-via-else-multiple-lt1+then-multiple-gt4 w ↦ (let g = w.if-multiple-gt4 in inr (omega arith))
    ])

pub returns-clause-ok : goal.returns-clause-ok
returns-clause-ok c =
    let l = c.if-multiple-lt1.false in
    let u = c.if-multiple-gt4.false in
    let n = c.if-first-lt192.false in
    fragment_read (freedoms c.args.rules) c.in_ok-first.field-0 c.args.cursor.now c.take_number.new.self (omega arith) (omega arith) c.in_ok-first.ensures.digits
