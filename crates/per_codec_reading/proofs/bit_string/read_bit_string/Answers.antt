use Rattle.std.proofs.Common.{sym, subst}
use Rattle.std.proofs.lemmas.Result.{err_from_is_err_and}
use Rattle.asn1_model.specs.Per
use Rattle.asn1_model.specs.Schema.{bit_string}
use Rattle.asn1_model.specs.Value.{bit_list}
use Rattle.asn1_schema_constraints.specs.Bounds.{counts_of}
use Rattle.asn1_schema_constraints.specs.Terms.{size_of}
use Rattle.per_codec_laws.specs.Takes.{Front}
use Rattle.per_codec_reading.specs.Fronts.{freedoms, is_aligned}
use Rattle.per_codec_reading.proofs.Fronts.{misses_also}
use Rattle.per_codec_reading.specs.Runs.{units_in}
use Rattle.per_codec_reading.specs.Headings.{contents_have_padding, sized_units}
use Rattle.per_codec_reading.specs.declared.sized.Contents.TheVariants.{Strings}
use Rattle.per_codec_reading.proofs.StringFronts.{bit_string_stands, no_bit_string}
use Rattle.per_codec_reading.proofs.bit_string.read_bit_string.Goals as goal

pub returns-in_err-units-clause-only : goal.returns-in_err-units-clause-only
returns-in_err-units-clause-only c =
    let p = err_from_is_err_and c.from_residual.result c.from_residual.ensures.1 in
    let f = freedoms c.args.rules in
    let al = is_aligned c.args.rules in
    let z = size_of c.args.sizes in
    let h = counts_of c.args.held in
    let a = c.args.cursor.now in
    rw (p.1, p.2) (misses_also f (sized_units al z h 1 (contents_have_padding Strings 1)) (Per.form al (bit_string z h)) a a _ (no_bit_string f al z h a) c.in_err-units.ensures.only)

pub returns-clause-ok : goal.returns-clause-ok
returns-clause-ok c =
    let f = freedoms c.args.rules in
    let al = is_aligned c.args.rules in
    let z = size_of c.args.sizes in
    let h = counts_of c.args.held in
    let a = c.args.cursor.now in
    let b = c.read_sized.new.cursor in
    let us = units_in c.in_ok-units.units in
    subst (λ x. Front f (Per.form al (bit_string z h) (bit_list x)) a b) (sym c.in_ok-string.ensures) (bit_string_stands f al z h us a b c.in_ok-units.ensures.ok)
