use Rattle.std.proofs.Common.{ap, length, refl, sym, subst, ◌∙◌}
use Rattle.asn1_model.specs.Numbers.{admits}
use Rattle.asn1_model.specs.Form.{written}
use Rattle.asn1_model.specs.Oer
use Rattle.asn1_model.specs.Schema.{utf8}
use Rattle.asn1_model.specs.Schema.{any_count}
use Rattle.asn1_schema_constraints.specs.Terms.{sizes_of, alphabet_of}
use Rattle.oer_codec_writing.specs.Writing.{Adds}
use Rattle.oer_codec_writing.proofs.ScalarTexts.{adds_same}
use Rattle.oer_codec_writing.proofs.CharacterTexts.{characters_text, characters_none}
use Rattle.std.proofs.lemmas.Str.{is_utf8-from_IsUtf8}
use Rattle.asn1_values_bits.proofs.Refused.{though_refused}
use Rattle.asn1_values_identifiers.proofs.Begins.{begins_same}
use Rattle.oer_codec_writing.proofs.character_string.push_utf8.Goals as goal

pub returns-then-not-admits-clause-text : goal.returns-then-not-admits-clause-text
returns-then-not-admits-clause-text c =
    let z = sizes_of c.args.constraints.now.size in
    characters_none utf8 z (alphabet_of c.args.constraints.now.permitted_alphabet) any_count c.args.value.now
    (ap (λ y. admits y any_count (length c.args.value.now)) (sym c.sizes-sizes.ensures) ∙ sym c.admits.ensures ∙ c.if-not-admits.true)

pub returns-clause-text : goal.returns-clause-text
returns-clause-text c =
    let z = sizes_of c.args.constraints.now.size in
    let os = c.args.value.now in
    let new = c.push_sized.new.octets.items in
    adds_same _ _ c.args.octets.now.items new
    (characters_text utf8 z (alphabet_of c.args.constraints.now.permitted_alphabet) any_count os os
    (ap (λ y. admits y any_count (length os)) (sym c.sizes-sizes.ensures) ∙ sym c.admits.ensures ∙ c.if-not-admits.false) (is_utf8-from_IsUtf8 os c.utf8.value) refl)
    (subst (λ b. Adds (written (Oer.octets_form b os) 0) c.args.octets.now.items new) (c.is_fixed.ensures ∙ ap Oer.is_fixed c.sizes-sizes.ensures)
    (subst (λ l. Adds (written (Oer.octets_form c.is_fixed.result l) 0) c.args.octets.now.items new) c.as_bytes.ensures.value c.in_ok-push_sized.ensures.text))

pub returns-in_err-push_sized-clause-kept : goal.returns-in_err-push_sized-clause-kept
returns-in_err-push_sized-clause-kept c = though_refused _ c.in_err-push_sized.ensures.kept

pub returns-then-not-admits-clause-kept : goal.returns-then-not-admits-clause-kept
returns-then-not-admits-clause-kept c = begins_same _ _ refl
