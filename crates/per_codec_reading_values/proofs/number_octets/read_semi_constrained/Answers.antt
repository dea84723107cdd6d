use Rattle.std.proofs.Common.{false, ap, sym, ◌∙◌}
use Rattle.std.proofs.lemmas.Result.{err_from_is_err_and}
use Rattle.asn1_model.specs.Per
use Rattle.asn1_values_natives.specs.Octets.{unsigned_number}
use Rattle.per_codec_reading.specs.Fronts.{freedoms, is_aligned}
use Rattle.per_codec_reading.proofs.Fronts.{misses_also}
use Rattle.per_codec_reading.specs.Octets.{octets_of}
use Rattle.per_codec_reading_values.specs.Integers.{number_octets, offset_form, is_offset}
use Rattle.per_codec_reading_values.proofs.OctetFronts.{no_offset, offset_read, offset_outside}
use Rattle.per_codec_reading_values.proofs.number_octets.read_semi_constrained.Goals as goal

pub returns-in_err-octets-clause-only : goal.returns-in_err-octets-clause-only
returns-in_err-octets-clause-only c =
    let p = err_from_is_err_and c.from_residual.result c.from_residual.ensures.1 in
    let f = freedoms c.args.rules in
    let al = is_aligned c.args.rules in
    let a = c.args.cursor.now in
    rw (p.1, p.2) (misses_also f (number_octets (f Per.longer_number) false al) (offset_form al) a a _ (no_offset f al a) c.in_err-octets.ensures.only)

pub returns-in-Some-clause-ok : goal.returns-in-Some-clause-ok
returns-in-Some-clause-ok c =
    let v = c.as_slice.ensures.value in
    offset_read (freedoms c.args.rules) (is_aligned c.args.rules) c.in-Some.above (octets_of c.in_ok-octets.octets) c.args.cursor.now
    c.read_number_octets.new.cursor (c.in-Some.ensures.value ∙ ap unsigned_number v) (ap (λ l. is_offset (unsigned_number l)) (sym v) ∙ sym c.in-Some.ensures.fits) c.in_ok-octets.ensures.ok

pub returns-clause-only : goal.returns-clause-only
returns-clause-only c =
    let v = c.as_slice.ensures.value in
    offset_outside (freedoms c.args.rules) (is_aligned c.args.rules) (octets_of c.in_ok-octets.octets) c.args.cursor.now
    c.read_number_octets.new.cursor (ap (λ l. is_offset (unsigned_number l)) (sym v) ∙ sym c.in-None.ensures.fits) c.in_ok-octets.ensures.ok
