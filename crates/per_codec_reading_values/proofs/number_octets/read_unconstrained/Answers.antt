use Rattle.asn1_model.specs.Schema.{wide_range}
use Rattle.std.proofs.Common.{true, ap, sym, ◌∙◌, subst}
use Rattle.std.specs.Int.{w128}
use Rattle.std.proofs.lemmas.Int.{to_z-of_z}
use Rattle.std.proofs.lemmas.Result.{err_from_is_err_and}
use Rattle.asn1_model.specs.Numbers.{is_within}
use Rattle.asn1_model.specs.Per
use Rattle.asn1_values_natives.specs.Octets.{signed_number}
use Rattle.per_codec_laws.specs.Takes.{Front}
use Rattle.per_codec_reading.specs.Fronts.{freedoms, is_aligned}
use Rattle.per_codec_reading.proofs.Fronts.{misses_also}
use Rattle.per_codec_reading.specs.Octets.{octets_of}
use Rattle.per_codec_reading_values.specs.Integers.{number_octets, in_128_bits}
use Rattle.per_codec_reading_values.proofs.OctetFronts.{no_unconstrained, unconstrained_read, unconstrained_outside}
use Rattle.per_codec_reading_values.proofs.WholeFronts.{wide_in_front}
use Rattle.per_codec_reading_values.proofs.number_octets.read_unconstrained.Goals as goal

pub returns-in_err-octets-clause-only : goal.returns-in_err-octets-clause-only
returns-in_err-octets-clause-only c =
    let p = err_from_is_err_and c.from_residual.result c.from_residual.ensures.1 in
    let f = freedoms c.args.rules in
    let al = is_aligned c.args.rules in
    let a = c.args.cursor.now in
    rw (p.1, p.2) (misses_also f (number_octets (f Per.longer_number) true al) (in_128_bits (Per.unconstrained al)) a a _ (no_unconstrained f al a) c.in_err-octets.ensures.only)

pub returns-in-Some-clause-ok : goal.returns-in-Some-clause-ok
returns-in-Some-clause-ok c =
    let v = c.as_slice.ensures.value in
    let f = freedoms c.args.rules in
    let al = is_aligned c.args.rules in
    let a = c.args.cursor.now in
    let b = c.read_number_octets.new.cursor in
    let r = unconstrained_read f al c.in-Some.number (octets_of c.in_ok-octets.octets) a b (c.in-Some.ensures.value ∙ ap signed_number v)
    (ap (λ l. is_within wide_range (signed_number l)) (sym v) ∙ sym c.in-Some.ensures.fits) c.in_ok-octets.ensures.ok in
    subst (λ z. Front f (in_128_bits (Per.unconstrained al) z) a b) (sym (to_z-of_z w128 c.in-Some.number (wide_in_front f (Per.unconstrained al) c.in-Some.number a b r))) r

pub returns-clause-only : goal.returns-clause-only
returns-clause-only c =
    let v = c.as_slice.ensures.value in
    unconstrained_outside (freedoms c.args.rules) (is_aligned c.args.rules) (octets_of c.in_ok-octets.octets) c.args.cursor.now
    c.read_number_octets.new.cursor (ap (λ l. is_within wide_range (signed_number l)) (sym v) ∙ sym c.in-None.ensures.fits) c.in_ok-octets.ensures.ok
