use Rattle.asn1_model.specs.Schema.{boolean}
use Rattle.asn1_model.specs.Per
use Rattle.per_codec_reading.specs.Fronts.{freedoms, is_aligned}
use Rattle.per_codec_reading.specs.Lengths.{one_bit}
use Rattle.per_codec_reading.proofs.Fronts.{misses_also, ok_also, err_also}
use Rattle.per_codec_reading.proofs.NumberFronts.{truth_stands, no_truth}
use Rattle.per_codec_reading.proofs.boolean.read_boolean.Goals as goal

pub returns-clause-ok : goal.returns-clause-ok
returns-clause-ok c = ok_also c.read_bit.result (λ v. truth_stands (freedoms c.args.rules) (is_aligned c.args.rules) v c.args.cursor.now c.read_bit.new.cursor) c.read_bit.ensures.ok

pub returns-clause-only : goal.returns-clause-only
returns-clause-only c =
    let f = freedoms c.args.rules in
    let al = is_aligned c.args.rules in
    let a = c.args.cursor.now in
    err_also c.read_bit.result (λ e. misses_also f one_bit (Per.form al boolean) a a e (no_truth f al a)) c.read_bit.ensures.only
