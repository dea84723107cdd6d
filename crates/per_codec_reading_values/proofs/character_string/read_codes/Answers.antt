use Rattle.std.proofs.Common.{◌∙◌, ap, subst, ◌*◌, arith}
use Rattle.std.proofs.lemmas.Result.{err_from_is_err_and}
use Rattle.asn1_model.specs.Per
use Rattle.asn1_model.specs.Schema.{character_string}
use Rattle.asn1_model.specs.Strings.{permitted}
use Rattle.asn1_model.specs.Schema.{any_count}
use Rattle.asn1_schema_constraints.specs.Terms.{alphabet_of, size_of, sizes_of}
use Rattle.asn1_laws_fronts.proofs.Strings.{permitted_orderly}
use Rattle.per_codec_laws.specs.Takes.{Front}
use Rattle.per_codec_rules.specs.Variants
use Rattle.per_codec_reading.specs.Fronts.{freedoms, is_aligned, NoneStands}
use Rattle.per_codec_reading.proofs.Fronts.{misses_also}
use Rattle.per_codec_reading.specs.Runs.{units_in}
use Rattle.per_codec_reading.specs.Headings.{contents_have_padding, sized_units}
use Rattle.per_codec_reading.specs.declared.sized.Contents.TheVariants.{Characters}
use Rattle.per_codec_reading.proofs.StringFronts.{sized_size}
use Rattle.per_codec_reading_values.proofs.CharacterFronts.{fitting, few_bits, codes_stand, no_codes, no_characters, refused_codes}
use Rattle.per_codec_reading_values.proofs.character_string.read_codes.Goals as goal

pub string_of_run-requires-clause-narrow : goal.string_of_run-requires-clause-narrow
string_of_run-requires-clause-narrow g c =
    let l = alphabet_of c.args.constraints.now.permitted_alphabet in
    let rs = permitted g.S.StaticPermittedAlphabet.kind l in
    let o = permitted_orderly g.S.StaticPermittedAlphabet.kind l.extensible l.characters c.requires.kind in
    let f = few_bits (is_aligned c.args.rules) rs o.1 in
    let b = c.in_ok-alphabet.ensures.width ∙
    ap (λ v. Per.character_bits (Variants.is_aligned v) (permitted g.S.StaticPermittedAlphabet.kind (alphabet_of c.args.constraints.now.permitted_alphabet))) c.variant.ensures in
    omega arith

pub returns-in_err-run-clause-only : goal.returns-in_err-run-clause-only
returns-in_err-run-clause-only g c =
    let p = err_from_is_err_and c.from_residual-in_err-run.result c.from_residual-in_err-run.ensures.1 in
    let S = g.S.StaticPermittedAlphabet in
    let f = freedoms c.args.rules in
    let al = is_aligned c.args.rules in
    let z = sizes_of c.args.constraints.now.size in
    let l = alphabet_of c.args.constraints.now.permitted_alphabet in
    let b = c.in_ok-alphabet.ensures.width ∙
    ap (λ v. Per.character_bits (Variants.is_aligned v) (permitted g.S.StaticPermittedAlphabet.kind (alphabet_of c.args.constraints.now.permitted_alphabet))) c.variant.ensures in
    let a = c.args.cursor.now in
    let y = size_of c.sizes.result in
    rw (p.1, p.2) (misses_also f (sized_units al y any_count c.width.result (contents_have_padding Characters c.width.result))
    (Per.form al (character_string S.kind z l any_count)) a a _ (λ n.
    no_codes f al S.kind z l c.in_ok-alphabet.alphabet c.in_ok-alphabet.ensures.characters b c.requires.kind g.met.S.StaticPermittedAlphabet.holds
    (permitted_orderly S.kind l.extensible l.characters c.requires.kind) a
    (subst (λ w. NoneStands f (sized_units al z any_count w (contents_have_padding Characters w)) a) c.width.ensures.bits
    (subst (λ s. NoneStands f (sized_units al s any_count c.width.result (contents_have_padding Characters c.width.result)) a) c.sizes.ensures n))) c.in_err-run.ensures.only)

pub string_of_run-requires-clause-whole : goal.string_of_run-requires-clause-whole
string_of_run-requires-clause-whole g c =
    let n = sized_size (freedoms c.args.rules) (is_aligned c.args.rules) (size_of c.sizes.result) any_count c.width.result
    (contents_have_padding Characters c.width.result) (units_in c.in_ok-run.run') c.args.cursor.now c.read_sized.new.cursor c.in_ok-run.ensures.ok in
    n ∙ ap (λ w. c.in_ok-run.run'.count * w) c.width.ensures.bits

pub returns-in-Ok-clause-ok : goal.returns-in-Ok-clause-ok
returns-in-Ok-clause-ok g c =
    let S = g.S.StaticPermittedAlphabet in
    let f = freedoms c.args.rules in
    let al = is_aligned c.args.rules in
    let z = sizes_of c.args.constraints.now.size in
    let l = alphabet_of c.args.constraints.now.permitted_alphabet in
    let b = c.in_ok-alphabet.ensures.width ∙
    ap (λ v. Per.character_bits (Variants.is_aligned v) (permitted g.S.StaticPermittedAlphabet.kind (alphabet_of c.args.constraints.now.permitted_alphabet))) c.variant.ensures in
    let us = units_in c.in_ok-run.run' in
    let r = subst (λ s. Front f (sized_units al s any_count c.width.result (contents_have_padding Characters c.width.result) us) c.args.cursor.now
    c.read_sized.new.cursor) c.sizes.ensures c.in_ok-run.ensures.ok in
    let x = subst (λ w. Front f (sized_units al z any_count w (contents_have_padding Characters w) us) c.args.cursor.now c.read_sized.new.cursor) c.width.ensures.bits r in
    codes_stand f al S.kind z l c.in_ok-alphabet.alphabet c.in_ok-alphabet.ensures.characters b c.requires.kind g.met.S.StaticPermittedAlphabet.holds
    us (S.characters c.in-Ok.string) c.args.cursor.now c.read_sized.new.cursor x c.in-Ok.ensures.count c.in-Ok.ensures.codes

pub returns-clause-only : goal.returns-clause-only
returns-clause-only g c =
    let S = g.S.StaticPermittedAlphabet in
    let f = freedoms c.args.rules in
    let al = is_aligned c.args.rules in
    let z = sizes_of c.args.constraints.now.size in
    let l = alphabet_of c.args.constraints.now.permitted_alphabet in
    let b = c.in_ok-alphabet.ensures.width ∙
    ap (λ v. Per.character_bits (Variants.is_aligned v) (permitted g.S.StaticPermittedAlphabet.kind (alphabet_of c.args.constraints.now.permitted_alphabet))) c.variant.ensures in
    let o = permitted_orderly S.kind l.extensible l.characters c.requires.kind in
    let a = c.in_ok-alphabet.alphabet in
    let us = units_in c.in_ok-run.run' in
    let r = subst (λ s. Front f (sized_units al s any_count c.width.result (contents_have_padding Characters c.width.result) us) c.args.cursor.now
    c.read_sized.new.cursor) c.sizes.ensures c.in_ok-run.ensures.ok in
    let x = subst (λ w. Front f (sized_units al z any_count w (contents_have_padding Characters w) us) c.args.cursor.now c.read_sized.new.cursor) c.width.ensures.bits r in
    refused_codes f (Per.form al (character_string S.kind z l any_count)) S.kind a us c.args.cursor.now c.in-Err.error
    (fitting al (permitted S.kind l) a c.in_ok-alphabet.ensures.characters b o)
    (no_characters f al S.kind z l a c.in_ok-alphabet.ensures.characters b c.requires.kind g.met.S.StaticPermittedAlphabet.holds o us
    c.args.cursor.now c.read_sized.new.cursor x) c.in-Err.ensures.refused c.in-Err.ensures.fresh
