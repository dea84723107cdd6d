use Rattle.std.proofs.lemmas.Result.{err_from_is_err_and}
use Rattle.asn1_model.specs.Oer.{counted}
use Rattle.oer_codec_reading.specs.Fronts.{freedoms}
use Rattle.oer_codec_reading.specs.Sized.{sized}
use Rattle.oer_codec_reading.proofs.Fronts.{misses_also}
use Rattle.oer_codec_reading.proofs.SizedFronts.{of_size, behind_number, too_few, no_number}
use Rattle.oer_codec_reading.proofs.octet_string.read_sized.Goals as goal

pub returns-in_err-octets-in-Some-clause-only : goal.returns-in_err-octets-in-Some-clause-only
returns-in_err-octets-in-Some-clause-only c =
    let p = err_from_is_err_and c.from_residual.result c.from_residual.ensures.1 in
    let q = c.in_err-octets-in-Some.ensures.short in
    rw (p.1, p.2, q.0) (too_few (freedoms c.args.rules) c.args.size c.in-Some.count c.args.cursor.now c.in-Some.is q.1)

pub returns-in_err-octets-in-None-clause-only : goal.returns-in_err-octets-in-None-clause-only
returns-in_err-octets-in-None-clause-only c =
    let p = err_from_is_err_and c.from_residual-in_err-octets-in-None.result c.from_residual-in_err-octets-in-None.ensures.1 in
    rw (p.1, p.2) (misses_also (freedoms c.args.rules) counted (sized c.args.size) c.args.cursor.now c.args.cursor.now _
    (no_number (freedoms c.args.rules) c.args.size c.args.cursor.now c.in-None.is) c.in_err-octets-in-None.ensures.only)

pub returns-in_ok-octets-in-Some-clause-ok : goal.returns-in_ok-octets-in-Some-clause-ok
returns-in_ok-octets-in-Some-clause-ok c =
    let q = c.in_ok-octets-in-Some.ensures in
    of_size (freedoms c.args.rules) c.args.size c.in-Some.count c.in_ok-octets-in-Some.octets.now c.args.cursor.now c.take.new.self c.in-Some.is q.small q.count q.octets

pub returns-in_ok-octets-in-None-clause-ok : goal.returns-in_ok-octets-in-None-clause-ok
returns-in_ok-octets-in-None-clause-ok c = behind_number (freedoms c.args.rules) c.args.size c.in_ok-octets-in-None.octets.now c.args.cursor.now
    c.read_counted.new.cursor c.in-None.is c.in_ok-octets-in-None.ensures.ok
