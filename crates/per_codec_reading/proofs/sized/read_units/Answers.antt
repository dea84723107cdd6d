use Rattle.std.proofs.Common.{ℕ, Option, ◌&&◌, sym, subst, []}
use Rattle.std.proofs.lemmas.Result.{err_from_is_err_and}
use Rattle.asn1_model.specs.Per
use Rattle.asn1_schema_constraints.specs.Bounds.{counts_of}
use Rattle.asn1_values_bits.specs.BitStr.{bits_of}
use Rattle.per_codec_laws.specs.Takes.{Front}
use Rattle.per_codec_reading.specs.Fronts.{freedoms, is_aligned, Completes}
use Rattle.per_codec_reading.specs.Runs.{units_in}
use Rattle.per_codec_reading.specs.Headings.{contents_have_padding, determinant_form, units_by_length}
use Rattle.per_codec_reading.proofs.HeadingFronts.{no_padding, no_bits, constrained_units, general_units, no_general_units}
use Rattle.per_codec_reading.proofs.sized.read_units.Goals as goal
use Rattle.asn1_model.specs.Form.{exactly}

pub returns-in_err-read_padding_if-in-Constrained-clause-only : goal.returns-in_err-read_padding_if-in-Constrained-clause-only
returns-in_err-read_padding_if-in-Constrained-clause-only c =
    let p = err_from_is_err_and c.from_residual.result c.from_residual.ensures.1 in
    let f = freedoms c.args.rules in
    let al = is_aligned c.args.rules in
    let w = c.args.width in
    let has_padding = contents_have_padding c.args.contents w in
    let root = counts_of c.args.root in
    let m = c.args.cursor.now in
    rw (p.1, p.2) (λ told a front. no_padding f al w has_padding root c.in-Constrained.count c.has_padding.result m _ c.has_padding.ensures
    c.in_err-read_padding_if-in-Constrained.ensures.only told a (subst (λ d. Front f (determinant_form al root told d) a m) c.in-Constrained.is front))

pub returns-in_err-bits-in-Constrained-clause-only : goal.returns-in_err-bits-in-Constrained-clause-only
returns-in_err-bits-in-Constrained-clause-only c =
    let p = err_from_is_err_and c.from_residual-in_err-bits-in-Constrained.result c.from_residual-in_err-bits-in-Constrained.ensures.1 in
    let f = freedoms c.args.rules in
    let al = is_aligned c.args.rules in
    let w = c.args.width in
    let has_padding = contents_have_padding c.args.contents w in
    let root = counts_of c.args.root in
    let m = c.args.cursor.now in
    let o = c.read_padding_if.new.cursor in
    let q = c.in_err-bits-in-Constrained.ensures.short in
    let k = subst (λ t. Front f (Per.at_octet (al && t) (exactly [])) m o) c.has_padding.ensures c.in_ok-read_padding_if-in-Constrained.ensures.ok in
    rw (p.1, p.2, q.0) (λ told a front. no_bits f al w has_padding root c.in-Constrained.count m o k q.1 told a (subst (λ d. Front f (determinant_form al root told d) a m) c.in-Constrained.is front))

pub returns-in_err-run-in-General-clause-only : goal.returns-in_err-run-in-General-clause-only
returns-in_err-run-in-General-clause-only c =
    let p = err_from_is_err_and c.from_residual-in_err-run-in-General.result c.from_residual-in_err-run-in-General.ensures.1 in
    let f = freedoms c.args.rules in
    let al = is_aligned c.args.rules in
    let w = c.args.width in
    let has_padding = contents_have_padding c.args.contents w in
    let root = counts_of c.args.root in
    let m = c.args.cursor.now in
    rw (p.1, p.2) (λ told a front. no_general_units f al w has_padding root c.in-General.length m _ c.in_err-run-in-General.ensures.only told a
    (subst (λ d. Front f (determinant_form al root told d) a m) c.in-General.is front))

pub returns-in_ok-bits-in-Constrained-clause-ok : goal.returns-in_ok-bits-in-Constrained-clause-ok
returns-in_ok-bits-in-Constrained-clause-ok c =
    let f = freedoms c.args.rules in
    let al = is_aligned c.args.rules in
    let w = c.args.width in
    let has_padding = contents_have_padding c.args.contents w in
    let root = counts_of c.args.root in
    let n = c.in-Constrained.count in
    let bs = bits_of c.in_ok-bits-in-Constrained.bits in
    let m = c.args.cursor.now in
    let o = c.read_padding_if.new.cursor in
    let b = c.take.new.self in
    let q = c.in_ok-bits-in-Constrained.ensures in
    let k = subst (λ t. Front f (Per.at_octet (al && t) (exactly [])) m o) c.has_padding.ensures c.in_ok-read_padding_if-in-Constrained.ensures.ok in
    subst (λ d. (told : Option ℕ) → Completes f (determinant_form al root told d) (units_by_length al w has_padding root told (n, bs)) m b)
    (sym c.in-Constrained.is) (constrained_units f al w has_padding root n bs m o b k q.bits q.count)

pub returns-in_ok-run-in-General-clause-ok : goal.returns-in_ok-run-in-General-clause-ok
returns-in_ok-run-in-General-clause-ok c =
    let f = freedoms c.args.rules in
    let al = is_aligned c.args.rules in
    let w = c.args.width in
    let has_padding = contents_have_padding c.args.contents w in
    let root = counts_of c.args.root in
    let us = units_in c.in_ok-run-in-General.run' in
    let m = c.args.cursor.now in
    let b = c.read_units_behind.new.cursor in
    subst (λ d. (told : Option ℕ) → Completes f (determinant_form al root told d) (units_by_length al w has_padding root told us) m b)
    (sym c.in-General.is) (general_units f al w has_padding root c.in-General.length us m b c.in_ok-run-in-General.ensures.ok)
