use Rattle.std.proofs.Common.{◌≡◌, length, sym, ap, ◌∙◌}
use Rattle.std.proofs.lemmas.Result.{err_from_is_err_and}
use Rattle.asn1_model.specs.Per
use Rattle.asn1_model.specs.Strings.{permitted}
use Rattle.asn1_model.specs.Schema.{any_count}
use Rattle.asn1_schema_constraints.specs.Terms.{sizes_of, size_of, alphabet_of}
use Rattle.per_codec_writing.specs.Writing.{place}
use Rattle.per_codec_writing.proofs.PaddingFieldLists.{adds_same}
use Rattle.per_codec_writing.proofs.Adding.{refuses_also}
use Rattle.per_codec_writing.proofs.CharacterStringFieldLists.{coded_field_list, coded_none}
use Rattle.per_codec_rules.specs.Variants.{is_aligned}
use Rattle.per_codec_writing.proofs.character_string.push_codes.Goals as goal

pub returns-then-not-have_codes : goal.returns-then-not-have_codes
returns-then-not-have_codes g c =
    let rs = permitted g.S.StaticPermittedAlphabet.kind (alphabet_of c.args.constraints.now.permitted_alphabet) in
    coded_none (is_aligned c.args.variant) (sizes_of c.args.constraints.now.size) any_count rs c.in_ok-alphabet.alphabet
    (g.S.StaticPermittedAlphabet.characters c.args.value.now) c.in_ok-alphabet.ensures.characters c.in_ok-alphabet.ensures.width (place c.args.output.now) (sym c.if-not-have_codes.ensures)

pub returns-in_err-push_coded : goal.returns-in_err-push_coded
returns-in_err-push_coded g c =
    let p = err_from_is_err_and c.from_residual-in_err-push_coded.result c.from_residual-in_err-push_coded.ensures.1 in
    let cs = g.S.StaticPermittedAlphabet.characters c.args.value.now in
    let y = size_of c.sizes-sizes.result in
    let has_padding : c.characters_have_padding-has_padding.result ≡ Per.characters_have_padding c.in_ok-alphabet.alphabet.code_bits (length cs)
    y.counts = c.characters_have_padding-has_padding.ensures ∙ ap (λ n. Per.characters_have_padding n c.char_count.result y.counts)
    c.width.ensures.bits ∙ ap (λ n. Per.characters_have_padding c.in_ok-alphabet.alphabet.code_bits n y.counts) c.char_count.ensures.count in
    let same = coded_field_list (is_aligned c.args.variant) (sizes_of c.args.constraints.now.size) y any_count
    (permitted g.S.StaticPermittedAlphabet.kind (alphabet_of c.args.constraints.now.permitted_alphabet)) c.in_ok-alphabet.alphabet cs
    c.in_ok-alphabet.ensures.characters c.in_ok-alphabet.ensures.width c.characters_have_padding-has_padding.result (place c.args.output.now)
    (sym c.if-not-have_codes.ensures) c.sizes-sizes.ensures has_padding in
    rw (p.1, p.2) (refuses_also _ _ _ (λ e. same ∙ e) c.in_err-push_coded.ensures)

pub returns : goal.returns
returns g c =
    let cs = g.S.StaticPermittedAlphabet.characters c.args.value.now in
    let y = size_of c.sizes-sizes.result in
    let has_padding : c.characters_have_padding-has_padding.result ≡ Per.characters_have_padding c.in_ok-alphabet.alphabet.code_bits (length cs)
    y.counts = c.characters_have_padding-has_padding.ensures ∙ ap (λ n. Per.characters_have_padding n c.char_count.result y.counts)
    c.width.ensures.bits ∙ ap (λ n. Per.characters_have_padding c.in_ok-alphabet.alphabet.code_bits n y.counts) c.char_count.ensures.count in
    let same = coded_field_list (is_aligned c.args.variant) (sizes_of c.args.constraints.now.size) y any_count
    (permitted g.S.StaticPermittedAlphabet.kind (alphabet_of c.args.constraints.now.permitted_alphabet)) c.in_ok-alphabet.alphabet cs
    c.in_ok-alphabet.ensures.characters c.in_ok-alphabet.ensures.width c.characters_have_padding-has_padding.result (place c.args.output.now)
    (sym c.if-not-have_codes.ensures) c.sizes-sizes.ensures has_padding in
    adds_same _ _ c.args.output.now c.push_coded.new.output same c.in_ok-push_coded.ensures
