use Rattle.std.proofs.Common.{Some}
use Rattle.asn1_model.specs.Per
use Rattle.asn1_model.specs.Schema.{integer, wide_range}
use Rattle.asn1_schema_forms.specs.Forms.{form_bounds}
use Rattle.per_codec_reading.specs.Fronts.{freedoms, is_aligned}
use Rattle.per_codec_reading.proofs.Fronts.{misses_also, ok_also, err_also}
use Rattle.per_codec_reading_values.specs.Integers.{in_128_bits}
use Rattle.per_codec_reading_values.proofs.FormFronts.{form_in, no_form}
use Rattle.per_codec_reading_values.proofs.integer.read_in_form.Goals as goal

pub returns-clause-ok : goal.returns-clause-ok
returns-clause-ok c = ok_also c.read_between_in_form.result
    (λ v. form_in (freedoms c.args.rules) (is_aligned c.args.rules) c.args.form.now v c.args.cursor.now c.read_between_in_form.new.cursor) c.read_between_in_form.ensures.ok

pub returns-clause-only : goal.returns-clause-only
returns-clause-only c =
    let f = freedoms c.args.rules in
    let al = is_aligned c.args.rules in
    let a = c.args.cursor.now in
    let form = c.args.form.now in
    err_also c.read_between_in_form.result
    (λ e. misses_also f (in_128_bits (Per.whole_number al (Some form.low) (Some form.high))) (Per.form al (integer (form_bounds form) wide_range)) a a e (no_form f al form a))
    c.read_between_in_form.ensures.only
