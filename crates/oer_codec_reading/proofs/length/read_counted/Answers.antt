use Rattle.std.proofs.lemmas.Result.{err_from_is_err_and}
use Rattle.asn1_model.specs.Oer.{counted, length_form}
use Rattle.oer_codec_reading.specs.Fronts.{freedoms}
use Rattle.oer_codec_reading.proofs.Fronts.{misses_also}
use Rattle.oer_codec_reading.proofs.LengthFronts.{no_length, few_counted, read_counted}
use Rattle.oer_codec_reading.proofs.length.read_counted.Goals as goal

pub returns-in_err-length-clause-only : goal.returns-in_err-length-clause-only
returns-in_err-length-clause-only c =
    let p = err_from_is_err_and c.from_residual.result c.from_residual.ensures.1 in
    rw (p.1, p.2) (misses_also (freedoms c.args.rules) length_form counted c.args.cursor.now c.args.cursor.now _ (no_length (freedoms c.args.rules) c.args.cursor.now) c.in_err-length.ensures.only)

pub returns-in_err-octets-clause-only : goal.returns-in_err-octets-clause-only
returns-in_err-octets-clause-only c =
    let p = err_from_is_err_and c.from_residual-in_err-octets.result c.from_residual-in_err-octets.ensures.1 in
    let q = c.in_err-octets.ensures.short in
    rw (p.1, p.2, q.0) (few_counted (freedoms c.args.rules) c.in_ok-length.length c.args.cursor.now c.read_length.new.cursor c.in_ok-length.ensures.ok q.1)

pub returns-clause-ok : goal.returns-clause-ok
returns-clause-ok c =
    let q = c.in_ok-octets.ensures in
    read_counted (freedoms c.args.rules) c.in_ok-length.length c.in_ok-octets.octets.now c.args.cursor.now c.read_length.new.cursor c.take.new.self q.small c.in_ok-length.ensures.ok q.octets q.count
