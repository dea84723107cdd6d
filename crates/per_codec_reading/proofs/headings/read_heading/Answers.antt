use Rattle.std.proofs.lemmas.Result.{err_from_is_err_and}
use Rattle.asn1_schema_constraints.specs.Terms.{size_of}
use Rattle.per_codec_laws.specs.Sizes.{extension_bit, told_highest}
use Rattle.per_codec_laws.proofs.Fronts.{join}
use Rattle.per_codec_reading.specs.Fronts.{freedoms, is_aligned}
use Rattle.per_codec_reading.specs.Headings.{determinant_form, heading_form}
use Rattle.per_codec_reading.proofs.Fronts.{misses_also}
use Rattle.per_codec_reading.proofs.HeadingFronts.{no_bit, no_determinant}
use Rattle.per_codec_reading.proofs.headings.read_heading.Goals as goal

pub returns-in_err-is_outside-clause-only : goal.returns-in_err-is_outside-clause-only
returns-in_err-is_outside-clause-only c =
    let p = err_from_is_err_and c.from_residual.result c.from_residual.ensures.1 in
    let f = freedoms c.args.rules in
    let al = is_aligned c.args.rules in
    let z = size_of c.args.sizes in
    let a = c.args.cursor.now in
    rw (p.1, p.2) (misses_also f (extension_bit z.extensible) (heading_form al z) a a _ (no_bit f al z a) c.in_err-is_outside.ensures.only)

pub returns-in_err-determinant-clause-only : goal.returns-in_err-determinant-clause-only
returns-in_err-determinant-clause-only c =
    let p = err_from_is_err_and c.from_residual-in_err-determinant.result c.from_residual-in_err-determinant.ensures.1 in
    let f = freedoms c.args.rules in
    let al = is_aligned c.args.rules in
    let z = size_of c.args.sizes in
    let o = c.in_ok-is_outside.is_outside in
    let a = c.args.cursor.now in
    let mid = c.read_extension_bit.new.cursor in
    rw (p.1, p.2) (misses_also f (determinant_form al z.counts (told_highest o z.counts.high)) (heading_form al z) mid a _
    (no_determinant f al z o a mid c.in_ok-is_outside.ensures.ok) c.in_err-determinant.ensures.only)

pub returns-clause-ok : goal.returns-clause-ok
returns-clause-ok c = join (freedoms c.args.rules) _ _ c.args.cursor.now c.read_extension_bit.new.cursor c.read_determinant.new.cursor c.in_ok-is_outside.ensures.ok c.in_ok-determinant.ensures.ok
