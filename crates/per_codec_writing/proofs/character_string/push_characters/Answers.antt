use Rattle.std.proofs.Common.{◌≡◌, true, sym, ap, ◌∙◌}
use Rattle.std.proofs.lemmas.Result.{err_from_is_err_and}
use Rattle.asn1_model.specs.Per
use Rattle.asn1_model.specs.Strings.{may_hold}
use Rattle.asn1_schema_constraints.specs.Terms.{sizes_of, alphabet_of}
use Rattle.per_codec_packing.specs.FieldLists.{field_list_at}
use Rattle.per_codec_writing.specs.Writing.{place}
use Rattle.per_codec_writing.proofs.PaddingFieldLists.{adds_same}
use Rattle.per_codec_writing.proofs.Adding.{refuses_also}
use Rattle.per_codec_writing.proofs.CharacterStringFieldLists.{string_of_octets, string_of_codes, string_as_octets}
use Rattle.per_codec_rules.specs.Variants.{is_aligned}
use Rattle.per_codec_writing.proofs.character_string.push_characters.Goals as goal

pub returns-then-is_of_octets : goal.returns-then-is_of_octets
returns-then-is_of_octets g c =
    let k = g.S.StaticPermittedAlphabet.kind in
    let cs = g.S.StaticPermittedAlphabet.characters c.args.value.now in
    let holds : may_hold k cs ≡ true = g.met.S.StaticPermittedAlphabet.holds cs ∙ c.char_count-count.ensures.permitted in
    let same = string_of_octets (is_aligned c.args.variant) k (sizes_of c.args.constraints.now.size)
    (alphabet_of c.args.constraints.now.permitted_alphabet) cs (place c.args.output.now) holds (sym c.if-is_of_octets.ensures) in
    adds_same _ _ c.args.output.now c.push_octets.new.output same c.in_ok-push_octets.ensures

pub returns-in-Some : goal.returns-in-Some
returns-in-Some g c =
    let k = g.S.StaticPermittedAlphabet.kind in
    let cs = g.S.StaticPermittedAlphabet.characters c.args.value.now in
    let permitted = c.char_count-count.ensures.permitted in
    let holds : may_hold k cs ≡ true = g.met.S.StaticPermittedAlphabet.holds cs ∙ permitted in
    let al = is_aligned c.args.variant in
    let same = string_as_octets al k c.args.constraints.now.size c.args.constraints.now.permitted_alphabet cs (place c.args.output.now) (sym c.if-is_encoded_as_octets.ensures) holds permitted in
    adds_same _ _ c.args.output.now c.push_counted_octets.new.output
    (same ∙ ap (λ os. field_list_at (Per.counted_octets al os) (place c.args.output.now)) (sym c.in-Some.ensures)) c.in_ok-push_counted_octets.ensures

pub returns-in_err-push_codes : goal.returns-in_err-push_codes
returns-in_err-push_codes g c =
    let p = err_from_is_err_and c.from_residual-in_err-push_codes.result c.from_residual-in_err-push_codes.ensures.1 in
    let k = g.S.StaticPermittedAlphabet.kind in
    let cs = g.S.StaticPermittedAlphabet.characters c.args.value.now in
    let holds : may_hold k cs ≡ true = g.met.S.StaticPermittedAlphabet.holds cs ∙ c.char_count-count.ensures.permitted in
    let same = string_of_codes (is_aligned c.args.variant) k (sizes_of c.args.constraints.now.size)
    (alphabet_of c.args.constraints.now.permitted_alphabet) cs (place c.args.output.now) holds (sym c.if-is_of_octets.ensures) in
    rw (p.1, p.2) (refuses_also _ _ _ (λ e. same ∙ e) c.in_err-push_codes.ensures)

pub returns : goal.returns
returns g c =
    let k = g.S.StaticPermittedAlphabet.kind in
    let cs = g.S.StaticPermittedAlphabet.characters c.args.value.now in
    let holds : may_hold k cs ≡ true = g.met.S.StaticPermittedAlphabet.holds cs ∙ c.char_count-count.ensures.permitted in
    let same = string_of_codes (is_aligned c.args.variant) k (sizes_of c.args.constraints.now.size)
    (alphabet_of c.args.constraints.now.permitted_alphabet) cs (place c.args.output.now) holds (sym c.if-is_of_octets.ensures) in
    adds_same _ _ c.args.output.now c.push_codes.new.output same c.in_ok-push_codes.ensures
