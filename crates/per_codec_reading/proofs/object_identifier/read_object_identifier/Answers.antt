use Rattle.std.proofs.Common.{sym, subst}
use Rattle.std.proofs.lemmas.Result.{err_from_is_err_and}
use Rattle.asn1_model.specs.Per
use Rattle.asn1_model.specs.Schema.{object_identifier}
use Rattle.per_codec_laws.specs.Takes.{Front}
use Rattle.per_codec_reading.specs.Fronts.{freedoms, is_aligned}
use Rattle.per_codec_reading.proofs.Fronts.{misses_also}
use Rattle.per_codec_reading.proofs.StringFronts.{identifier_stands, no_identifier_octets, no_identifier}
use Rattle.per_codec_reading.proofs.object_identifier.read_object_identifier.Goals as goal

pub returns-in_err-octets-clause-only : goal.returns-in_err-octets-clause-only
returns-in_err-octets-clause-only c =
    let p = err_from_is_err_and c.from_residual.result c.from_residual.ensures.1 in
    let f = freedoms c.args.rules in
    let al = is_aligned c.args.rules in
    let a = c.args.cursor.now in
    rw (p.1, p.2) (misses_also f (Per.counted_octets al) (Per.form al object_identifier) a a _ (no_identifier_octets f al a) c.in_err-octets.ensures.only)

pub returns-in-Ok-clause-ok : goal.returns-in-Ok-clause-ok
returns-in-Ok-clause-ok c =
    let f = freedoms c.args.rules in
    let al = is_aligned c.args.rules in
    let a = c.args.cursor.now in
    let b = c.read_counted_octets.new.cursor in
    let front = subst (λ os. Front f (Per.counted_octets al os) a b) (sym c.as_slice.ensures.value) c.in_ok-octets.ensures.ok in
    identifier_stands f al c.in-Ok.identifier c.as_slice.result.now a b c.in-Ok.ensures.identifier c.in-Ok.ensures.written front

pub returns-clause-only : goal.returns-clause-only
returns-clause-only c =
    let f = freedoms c.args.rules in
    let al = is_aligned c.args.rules in
    let a = c.args.cursor.now in
    let b = c.read_counted_octets.new.cursor in
    let front = subst (λ os. Front f (Per.counted_octets al os) a b) (sym c.as_slice.ensures.value) c.in_ok-octets.ensures.ok in
    no_identifier f al c.as_slice.result.now a b c.in-Err.error c.identifier_fault.result c.in-Err.ensures.wrong c.identifier_fault.ensures.memory c.identifier_fault.ensures.fresh front
