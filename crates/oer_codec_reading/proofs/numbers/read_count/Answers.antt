use Rattle.std.proofs.Common.{None, false}
use Rattle.std.proofs.lemmas.Result.{err_from_is_err_and}
use Rattle.oer_codec_reading.specs.Fronts.{freedoms}
use Rattle.oer_codec_reading.specs.Integers.{count_in, number_in}
use Rattle.oer_codec_reading.proofs.Fronts.{misses_also}
use Rattle.oer_codec_reading.proofs.WholeFronts.{count_read, no_count, count_past}
use Rattle.oer_codec_reading.proofs.numbers.read_count.Goals as goal

pub returns-in_err-octets-clause-only : goal.returns-in_err-octets-clause-only
returns-in_err-octets-clause-only c =
    let p = err_from_is_err_and c.from_residual.result c.from_residual.ensures.1 in
    rw (p.1, p.2) (misses_also (freedoms c.args.rules) (number_in false None) count_in c.args.cursor.now c.args.cursor.now _ (no_count c.args.rules c.args.cursor.now) c.in_err-octets.ensures.only)

pub returns-in-Some-clause-ok : goal.returns-in-Some-clause-ok
returns-in-Some-clause-ok c = count_read c.args.rules c.args.cursor.now c.in-Some.count c.in_ok-octets.octets.now c.read_number.new.cursor c.in-Some.ensures.number c.in_ok-octets.ensures.ok

pub returns-in-None-clause-only : goal.returns-in-None-clause-only
returns-in-None-clause-only c = count_past c.args.rules c.args.cursor.now c.in_ok-octets.octets.now c.read_number.new.cursor c.in-None.ensures.none c.in_ok-octets.ensures.ok
