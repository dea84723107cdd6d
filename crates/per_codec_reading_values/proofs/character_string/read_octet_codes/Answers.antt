use Rattle.std.proofs.Common.{sym, subst}
use Rattle.std.proofs.lemmas.Result.{err_from_is_err_and}
use Rattle.asn1_model.specs.Per
use Rattle.asn1_model.specs.Schema.{any_count, character_string}
use Rattle.asn1_model.specs.Value.{text}
use Rattle.asn1_schema_constraints.specs.Terms.{alphabet_of, sizes_of}
use Rattle.per_codec_laws.specs.Takes.{Front}
use Rattle.per_codec_reading.specs.Fronts.{freedoms, is_aligned}
use Rattle.per_codec_reading.proofs.Fronts.{misses_also}
use Rattle.per_codec_reading_values.proofs.OctetCodeFronts.{codes_stand, no_codes, refused_octets}
use Rattle.per_codec_reading_values.proofs.character_string.read_octet_codes.Goals as goal

pub returns-in_err-octets-clause-only : goal.returns-in_err-octets-clause-only
returns-in_err-octets-clause-only g c =
    let p = err_from_is_err_and c.from_residual.result c.from_residual.ensures.1 in
    let S = g.S.StaticPermittedAlphabet in
    let f = freedoms c.args.rules in
    let al = is_aligned c.args.rules in
    let z = c.args._constraints.now.size in
    let l = c.args._constraints.now.permitted_alphabet in
    let a = c.args.cursor.now in
    rw (p.1, p.2) (misses_also f (Per.counted_octets al) (Per.form al (character_string S.kind (sizes_of z) (alphabet_of l) any_count)) a a _
    (no_codes f al S.kind z l c.requires.codes g.met.S.StaticPermittedAlphabet.holds a) c.in_err-octets.ensures.only)

pub returns-in-Ok-clause-ok : goal.returns-in-Ok-clause-ok
returns-in-Ok-clause-ok g c =
    let S = g.S.StaticPermittedAlphabet in
    let f = freedoms c.args.rules in
    let al = is_aligned c.args.rules in
    let z = c.args._constraints.now.size in
    let l = c.args._constraints.now.permitted_alphabet in
    let a = c.args.cursor.now in
    let b = c.read_counted_octets.new.cursor in
    let front = subst (λ os. Front f (Per.counted_octets al os) a b) (sym c.as_slice.ensures.value) c.in_ok-octets.ensures.ok in
    subst (λ x. Front f (Per.form al (character_string S.kind (sizes_of z) (alphabet_of l) any_count) (text x)) a b) (sym c.in-Ok.ensures.characters)
    (codes_stand f al S.kind z l c.requires.codes g.met.S.StaticPermittedAlphabet.holds c.as_slice.result.now a b c.in-Ok.ensures.permitted front)

pub returns-clause-only : goal.returns-clause-only
returns-clause-only g c =
    let S = g.S.StaticPermittedAlphabet in
    let f = freedoms c.args.rules in
    let al = is_aligned c.args.rules in
    let z = c.args._constraints.now.size in
    let l = c.args._constraints.now.permitted_alphabet in
    let a = c.args.cursor.now in
    let b = c.read_counted_octets.new.cursor in
    let front = subst (λ os. Front f (Per.counted_octets al os) a b) (sym c.as_slice.ensures.value) c.in_ok-octets.ensures.ok in
    refused_octets f al S.kind z l c.requires.codes g.met.S.StaticPermittedAlphabet.holds c.as_slice.result.now a b c.in-Err.error front c.in-Err.ensures.refused c.in-Err.ensures.fresh
