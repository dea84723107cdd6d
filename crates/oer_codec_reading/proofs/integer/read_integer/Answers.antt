use Rattle.std.proofs.lemmas.Result.{err_from_is_err_and}
use Rattle.asn1_model.specs.Schema.{integer}
use Rattle.asn1_model.specs.Oer.{form}
use Rattle.asn1_schema_constraints.specs.Terms.{bounds_of, held_of}
use Rattle.asn1_values_natives.specs.Octets.{own_number}
use Rattle.oer_codec_reading.specs.Fronts.{freedoms}
use Rattle.oer_codec_reading.specs.Integers.{number_in}
use Rattle.oer_codec_reading.proofs.Fronts.{misses_also}
use Rattle.oer_codec_reading.proofs.IntegerFronts.{no_integer, value_read, value_refused}
use Rattle.oer_codec_reading.proofs.integer.read_integer.Goals as goal

pub returns-in_err-octets-clause-only : goal.returns-in_err-octets-clause-only
returns-in_err-octets-clause-only g c =
    let p = err_from_is_err_and c.from_residual.result c.from_residual.ensures.1 in
    let f = c.form_under-signed in
    let v = c.args.constraints.now.value in
    rw (p.1, p.2) (misses_also (freedoms c.args.rules) (number_in f.result.0 f.result.1)
    (form (integer (bounds_of v) (held_of v g.I.IntegerType.held))) c.args.cursor.now c.args.cursor.now _
    (no_integer (freedoms c.args.rules) v g.I.IntegerType.held f.result.0 f.result.1 c.args.cursor.now f.ensures.sign f.ensures.width) c.in_err-octets.ensures.only)

pub returns-clause-ok : goal.returns-clause-ok
returns-clause-ok g c =
    let f = c.form_under-signed in
    value_read (freedoms c.args.rules) c.admitted_value.result g.I.IntegerType.value c.args.constraints.now.value g.I.IntegerType.held f.result.0
    f.result.1 (own_number f.result.0 c.in_ok-octets.octets.now) c.args.cursor.now c.read_number.new.cursor f.ensures.sign f.ensures.width
    c.admitted_value.ensures.value c.admitted_value.ensures.held c.admitted_value.ensures.admitted c.in_ok-octets.ensures.ok

pub returns-clause-only : goal.returns-clause-only
returns-clause-only g c =
    let f = c.form_under-signed in
    value_refused (freedoms c.args.rules) c.admitted_value.result c.args.constraints.now.value g.I.IntegerType.held f.result.0 f.result.1
    (own_number f.result.0 c.in_ok-octets.octets.now) c.args.cursor.now c.read_number.new.cursor f.ensures.sign f.ensures.width
    c.admitted_value.ensures.fresh c.admitted_value.ensures.refused c.in_ok-octets.ensures.ok
