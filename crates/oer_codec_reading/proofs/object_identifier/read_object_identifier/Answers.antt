use Rattle.std.proofs.lemmas.Result.{err_from_is_err_and}
use Rattle.asn1_model.specs.Schema.{object_identifier}
use Rattle.asn1_model.specs.Oer.{counted, form}
use Rattle.oer_codec_reading.specs.Fronts.{freedoms}
use Rattle.oer_codec_reading.proofs.Fronts.{misses_also}
use Rattle.oer_codec_reading.proofs.IdentifierFronts.{identifier_stands, no_octets, no_identifier}
use Rattle.oer_codec_reading.proofs.object_identifier.read_object_identifier.Goals as goal

pub returns-in_err-octets-clause-only : goal.returns-in_err-octets-clause-only
returns-in_err-octets-clause-only c =
    let p = err_from_is_err_and c.from_residual.result c.from_residual.ensures.1 in
    rw (p.1, p.2) (misses_also (freedoms c.args.rules) counted (form object_identifier) c.args.cursor.now c.args.cursor.now _
    (no_octets (freedoms c.args.rules) c.args.cursor.now) c.in_err-octets.ensures.only)

pub returns-in-Ok-clause-ok : goal.returns-in-Ok-clause-ok
returns-in-Ok-clause-ok c = identifier_stands (freedoms c.args.rules) c.in-Ok.identifier c.in_ok-octets.octets.now c.args.cursor.now
    c.read_counted.new.cursor c.in-Ok.ensures.identifier c.in-Ok.ensures.written c.in_ok-octets.ensures.ok

pub returns-in-Err-clause-only : goal.returns-in-Err-clause-only
returns-in-Err-clause-only c = no_identifier (freedoms c.args.rules) c.in_ok-octets.octets.now c.args.cursor.now c.read_counted.new.cursor
    c.in-Err.error c.identifier_fault.result c.in-Err.ensures.wrong c.identifier_fault.ensures.memory c.identifier_fault.ensures.fresh c.in_ok-octets.ensures.ok
