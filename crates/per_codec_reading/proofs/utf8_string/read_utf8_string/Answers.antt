use Rattle.std.proofs.Common.{sym, subst, ◌∙◌}
use Rattle.std.proofs.lemmas.Result.{err_from_is_err_and}
use Rattle.asn1_model.specs.Per
use Rattle.asn1_model.specs.Schema.{utf8, character_string}
use Rattle.asn1_model.specs.Schema.{any_count}
use Rattle.asn1_model.specs.Value.{text}
use Rattle.asn1_schema_constraints.specs.Terms.{sizes_of, alphabet_of}
use Rattle.per_codec_laws.specs.Takes.{Front}
use Rattle.per_codec_reading.specs.Fronts.{freedoms, is_aligned}
use Rattle.per_codec_reading.proofs.Fronts.{misses_also}
use Rattle.per_codec_reading.proofs.StringFronts.{text_stands, no_text_octets, no_text}
use Rattle.per_codec_reading.proofs.utf8_string.read_utf8_string.Goals as goal

pub returns-in_err-octets-clause-only : goal.returns-in_err-octets-clause-only
returns-in_err-octets-clause-only c =
    let p = err_from_is_err_and c.from_residual.result c.from_residual.ensures.1 in
    let f = freedoms c.args.rules in
    let al = is_aligned c.args.rules in
    let z = sizes_of c.args._constraints.now.size in
    let l = alphabet_of c.args._constraints.now.permitted_alphabet in
    let a = c.args.cursor.now in
    rw (p.1, p.2) (misses_also f (Per.counted_octets al) (Per.form al (character_string utf8 z l any_count)) a a _ (no_text_octets f al z l a) c.in_err-octets.ensures.only)

pub returns-in_default-clause-only : goal.returns-in_default-clause-only
returns-in_default-clause-only c =
    let f = freedoms c.args.rules in
    let al = is_aligned c.args.rules in
    let a = c.args.cursor.now in
    let b = c.read_counted_octets.new.cursor in
    let front = subst (λ os. Front f (Per.counted_octets al os) a b) (sym c.as_slice.ensures.value) c.in_ok-octets.ensures.ok in
    no_text f al (sizes_of c.args._constraints.now.size) (alphabet_of c.args._constraints.now.permitted_alphabet) c.as_slice.result.now a b (sym c.in_default.ensures.utf8) front

pub returns-clause-ok : goal.returns-clause-ok
returns-clause-ok c =
    let f = freedoms c.args.rules in
    let al = is_aligned c.args.rules in
    let z = sizes_of c.args._constraints.now.size in
    let l = alphabet_of c.args._constraints.now.permitted_alphabet in
    let a = c.args.cursor.now in
    let b = c.read_counted_octets.new.cursor in
    let front = subst (λ os. Front f (Per.counted_octets al os) a b) (sym c.as_slice.ensures.value) c.in_ok-octets.ensures.ok in
    subst (λ t. Front f (Per.form al (character_string utf8 z l any_count) (text t)) a b) (sym (c.in_ok-string.ensures.ok ∙ c.in-Some.ensures.text))
    (text_stands f al z l c.as_slice.result.now a b (sym c.in-Some.ensures.utf8) front)
