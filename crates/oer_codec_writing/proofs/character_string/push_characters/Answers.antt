use Rattle.std.proofs.Common.{refl, ap, sym, subst, ◌∙◌}
use Rattle.std.specs.Prelude.{flat_map}
use Rattle.asn1_model.specs.Numbers.{admits}
use Rattle.asn1_model.specs.Form.{written}
use Rattle.asn1_model.specs.Numbers.{digits}
use Rattle.asn1_model.specs.Oer
use Rattle.asn1_model.specs.Schema.{any_count}
use Rattle.asn1_schema_constraints.specs.Terms.{sizes_of, alphabet_of}
use Rattle.oer_codec_writing.specs.Writing.{Adds}
use Rattle.oer_codec_writing.proofs.ScalarTexts.{adds_same}
use Rattle.oer_codec_writing.proofs.CharacterTexts.{characters_text, characters_none, narrow_octets, narrow_text, wide_text}
use Rattle.asn1_values_bits.proofs.Refused.{though_refused}
use Rattle.asn1_values_identifiers.proofs.Begins.{begins_same}
use Rattle.oer_codec_writing.proofs.character_string.push_characters.Goals as goal

pub returns-then-not-admits-clause-text : goal.returns-then-not-admits-clause-text
returns-then-not-admits-clause-text g c =
    let z = sizes_of c.args.constraints.now.size in
    characters_none g.S.StaticPermittedAlphabet.kind z (alphabet_of c.args.constraints.now.permitted_alphabet) any_count (g.S.StaticPermittedAlphabet.characters c.args.value.now)
    (ap (admits z any_count) (sym c.char_count.ensures.count) ∙ ap (λ y. admits y any_count c.char_count.result) (sym c.sizes-sizes.ensures) ∙ sym c.admits.ensures ∙ c.if-not-admits.true)

pub returns-then-contains_char-clause-text : goal.returns-then-contains_char-clause-text
returns-then-contains_char-clause-text g c =
    let z = sizes_of c.args.constraints.now.size in
    let k = g.S.StaticPermittedAlphabet.kind in
    let cs = g.S.StaticPermittedAlphabet.characters c.args.value.now in
    let os = flat_map (digits 256 2) cs in
    let new = c.push_wide_string.new.octets.items in
    adds_same _ _ c.args.octets.now.items new
    (characters_text k z (alphabet_of c.args.constraints.now.permitted_alphabet) any_count cs os
    (ap (admits z any_count) (sym c.char_count.ensures.count) ∙ ap (λ y. admits y any_count c.char_count.result) (sym c.sizes-sizes.ensures) ∙ sym c.admits.ensures ∙ c.if-not-admits.false)
    (g.met.S.StaticPermittedAlphabet.holds cs ∙ c.char_count.ensures.permitted) (wide_text k cs (sym c.contains_char.ensures ∙ c.if-contains_char.true)))
    (subst (λ b. Adds (written (Oer.octets_form b os) 0) c.args.octets.now.items new) (c.is_fixed-fixed.ensures ∙ ap Oer.is_fixed c.sizes-sizes.ensures) c.in_ok-push_wide_string.ensures.text)

pub push_narrow_string-requires : goal.push_narrow_string-requires
push_narrow_string-requires g c = narrow_octets g.S.StaticPermittedAlphabet.kind (g.S.StaticPermittedAlphabet.characters c.args.value.now)
    (sym c.contains_char.ensures ∙ c.if-contains_char.false) c.char_count.ensures.permitted

pub returns-clause-text : goal.returns-clause-text
returns-clause-text g c =
    let z = sizes_of c.args.constraints.now.size in
    let k = g.S.StaticPermittedAlphabet.kind in
    let cs = g.S.StaticPermittedAlphabet.characters c.args.value.now in
    let new = c.push_narrow_string.new.octets.items in
    adds_same _ _ c.args.octets.now.items new
    (characters_text k z (alphabet_of c.args.constraints.now.permitted_alphabet) any_count cs cs
    (ap (admits z any_count) (sym c.char_count.ensures.count) ∙ ap (λ y. admits y any_count c.char_count.result) (sym c.sizes-sizes.ensures) ∙ sym c.admits.ensures ∙ c.if-not-admits.false)
    (g.met.S.StaticPermittedAlphabet.holds cs ∙ c.char_count.ensures.permitted) (narrow_text k cs (sym c.contains_char.ensures ∙ c.if-contains_char.false)))
    (subst (λ b. Adds (written (Oer.octets_form b cs) 0) c.args.octets.now.items new) (c.is_fixed-fixed.ensures ∙ ap Oer.is_fixed c.sizes-sizes.ensures) c.in_ok-push_narrow_string.ensures.text)

pub returns-in_err-push_wide_string-clause-kept : goal.returns-in_err-push_wide_string-clause-kept
returns-in_err-push_wide_string-clause-kept g c = though_refused _ c.in_err-push_wide_string.ensures.kept

pub returns-in_err-push_narrow_string-clause-kept : goal.returns-in_err-push_narrow_string-clause-kept
returns-in_err-push_narrow_string-clause-kept g c = though_refused _ c.in_err-push_narrow_string.ensures.kept

pub returns-then-not-admits-clause-kept : goal.returns-then-not-admits-clause-kept
returns-then-not-admits-clause-kept g c = begins_same _ _ refl
