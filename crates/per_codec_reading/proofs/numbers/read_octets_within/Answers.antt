use Rattle.std.proofs.Common.{◌-◌, ◌+◌, ◌*◌, true, arith, sym}
use Rattle.std.proofs.lemmas.Result.{err_from_is_err_and}
use Rattle.asn1_model.specs.Per
use Rattle.per_codec_reading.specs.Fronts.{freedoms}
use Rattle.per_codec_reading.specs.Lengths.{number_within, padded_within}
use Rattle.per_codec_reading.proofs.Fronts.{misses_also}
use Rattle.per_codec_reading.proofs.NumberFronts.{some_octets, count_missed, padded_octets, padded_missed, padded_refused, within_out}
use Rattle.per_codec_reading.proofs.numbers.read_octets_within.Goals as goal

pub overflow_sub-most : goal.overflow_sub-most
overflow_sub-most c =
    let n = some_octets c.args.span c.requires.large in
    let e = c.octet_width.ensures.width in
    omega arith

pub returns-in_err-further-clause-only : goal.returns-in_err-further-clause-only
returns-in_err-further-clause-only c =
    let p = err_from_is_err_and c.from_residual.result c.from_residual.ensures.1 in
    let f = freedoms c.args.rules in
    let o = c.octet_width in
    let a = c.args.cursor.now in
    rw (p.1, p.2) (misses_also f (padded_within c.bit_count.result (o.result - 1)) (Per.constrained true c.args.span) a a _
    (count_missed f c.args.span o.result c.bit_count.result a c.requires.large o.ensures.most o.ensures.width c.bit_count.ensures.value) c.in_err-further.ensures.only)

pub returns-in_err-number-clause-only : goal.returns-in_err-number-clause-only
returns-in_err-number-clause-only c =
    let p = err_from_is_err_and c.from_residual-in_err-number.result c.from_residual-in_err-number.ensures.1 in
    let f = freedoms c.args.rules in
    let o = c.octet_width in
    let k = c.in_ok-further.field-0 in
    let a = c.args.cursor.now in
    let m = c.read_padded_within.new.cursor in
    rw (p.1, p.2) (misses_also f (number_within (8 * (k + 1)) c.args.span) (Per.constrained true c.args.span) m a _
    (padded_missed f c.args.span o.result c.bit_count.result k a m c.requires.large o.ensures.most o.ensures.width c.bit_count.ensures.value
    c.in_ok-further.ensures.ok) c.in_err-number.ensures.only)

pub is_accepted-requires-clause-fits : goal.is_accepted-requires-clause-fits
is_accepted-requires-clause-fits c =
    (within_out (freedoms c.args.rules) (8 * (c.in_ok-further.field-0 + 1)) c.args.span c.in_ok-number.number c.read_padded_within.new.cursor
    c.read_number_within.new.cursor c.in_ok-number.ensures.ok).fits

pub returns-then-not-is_accepted-clause-only : goal.returns-then-not-is_accepted-clause-only
returns-then-not-is_accepted-clause-only c =
    let o = c.octet_width in
    padded_refused (freedoms c.args.rules) c.args.span o.result c.bit_count.result c.in_ok-further.field-0 c.in_ok-number.number c.args.cursor.now
    c.read_padded_within.new.cursor c.read_number_within.new.cursor (sym c.if-not-is_accepted.ensures) c.requires.large o.ensures.most
    o.ensures.width c.bit_count.ensures.value c.in_ok-further.ensures.ok c.in_ok-number.ensures.ok

pub returns-clause-ok : goal.returns-clause-ok
returns-clause-ok c =
    let o = c.octet_width in
    padded_octets (freedoms c.args.rules) c.args.span o.result c.bit_count.result c.in_ok-further.field-0 c.in_ok-number.number c.args.cursor.now
    c.read_padded_within.new.cursor c.read_number_within.new.cursor (sym c.if-not-is_accepted.ensures) c.requires.large o.ensures.most
    o.ensures.width c.bit_count.ensures.value c.in_ok-further.ensures.ok c.in_ok-number.ensures.ok
