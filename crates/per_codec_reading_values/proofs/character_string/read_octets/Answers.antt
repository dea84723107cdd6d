use Rattle.std.proofs.Common.{◌∙◌, sym, subst}
use Rattle.std.proofs.lemmas.Result.{err_from_is_err_and}
use Rattle.asn1_model.specs.Per
use Rattle.asn1_model.specs.Schema.{character_string}
use Rattle.asn1_model.specs.Schema.{any_count}
use Rattle.asn1_model.specs.Value.{text}
use Rattle.asn1_schema_constraints.specs.Terms.{alphabet_of, sizes_of}
use Rattle.per_codec_laws.specs.Takes.{Front}
use Rattle.per_codec_reading.specs.Fronts.{freedoms, is_aligned}
use Rattle.per_codec_reading.proofs.Fronts.{misses_also}
use Rattle.per_codec_reading.specs.Octets.{octets_of}
use Rattle.per_codec_reading_values.proofs.CharacterOctetFronts.{octets_stand, no_octets}
use Rattle.per_codec_reading_values.proofs.character_string.read_octets.Goals as goal

pub returns-in_err-octets-clause-only : goal.returns-in_err-octets-clause-only
returns-in_err-octets-clause-only g c =
    let p = err_from_is_err_and c.from_residual.result c.from_residual.ensures.1 in
    let S = g.S.StaticPermittedAlphabet in
    let f = freedoms c.args.rules in
    let al = is_aligned c.args.rules in
    let z = sizes_of c.args._constraints.now.size in
    let l = alphabet_of c.args._constraints.now.permitted_alphabet in
    let a = c.args.cursor.now in
    rw (p.1, p.2) (misses_also f (Per.counted_octets al) (Per.form al (character_string S.kind z l any_count)) a a _ (no_octets f al S.kind z l c.requires.kind a) c.in_err-octets.ensures.only)

pub returns-in-Ok-clause-ok : goal.returns-in-Ok-clause-ok
returns-in-Ok-clause-ok g c =
    let S = g.S.StaticPermittedAlphabet in
    let f = freedoms c.args.rules in
    let al = is_aligned c.args.rules in
    let z = sizes_of c.args._constraints.now.size in
    let l = alphabet_of c.args._constraints.now.permitted_alphabet in
    let a = c.args.cursor.now in
    let b = c.read_counted_octets.new.cursor in
    subst (λ x. Front f (Per.form al (character_string S.kind z l any_count) (text x)) a b)
    (sym (c.in-Ok.ensures.characters ∙ c.as_slice.ensures.value))
    (octets_stand f al S.kind z l c.requires.kind g.met.S.StaticPermittedAlphabet.holds (octets_of c.in_ok-octets.octets) a b c.in_ok-octets.ensures.ok)
