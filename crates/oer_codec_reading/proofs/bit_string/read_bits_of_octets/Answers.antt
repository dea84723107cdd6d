use Rattle.std.proofs.Common.{refl, arith}
use Rattle.std.proofs.lemmas.Result.{err_from_is_err_and}
use Rattle.oer_codec_reading.proofs.BitFronts.{bits_read, short_bits, no_bits_with_unused}
use Rattle.oer_codec_reading.proofs.bit_string.read_bits_of_octets.Goals as goal

pub returns-in_err-octets-clause-only : goal.returns-in_err-octets-clause-only
returns-in_err-octets-clause-only c =
    let p = err_from_is_err_and c.from_residual.result c.from_residual.ensures.1 in
    let q = c.in_err-octets.ensures.short in
    rw (p.1, p.2, q.0) (short_bits c.args.rules c.args.count c.div_ceil.result c.args.cursor.now (omega arith) q.1)

pub returns-then-not-is_taken-clause-only : goal.returns-then-not-is_taken-clause-only
returns-then-not-is_taken-clause-only c =
    let q = c.in_ok-octets.ensures in
    no_bits_with_unused c.args.rules c.args.count c.in_ok-octets.octets.now c.args.cursor.now c.take.new.self (let l = q.count in omega (arith, l)) q.octets (c.if-not-is_taken.ensures.refused refl)

pub returns-clause-ok : goal.returns-clause-ok
returns-clause-ok c =
    let q = c.in_ok-octets.ensures in
    bits_read c.args.rules c.args.count c.in_ok-octets.octets.now c.args.cursor.now c.take.new.self _ (let l = q.count in omega (arith, l)) q.small
    q.octets (c.if-not-is_taken.ensures.taken refl) c.front_of.ensures.bits
