use Rattle.std.proofs.Common.{refl, ap, length, sym, subst, ◌∙◌}
use Rattle.asn1_model.specs.Numbers.{admits}
use Rattle.asn1_model.specs.Form.{written}
use Rattle.asn1_model.specs.Oer
use Rattle.asn1_schema_constraints.specs.Bounds.{counts_of}
use Rattle.asn1_schema_constraints.specs.Terms.{sizes_of}
use Rattle.oer_codec_writing.specs.Writing.{Adds}
use Rattle.oer_codec_writing.proofs.ScalarTexts.{octet_string_text, octet_string_none, adds_same}
use Rattle.asn1_values_bits.proofs.Refused.{though_refused}
use Rattle.asn1_values_identifiers.proofs.Begins.{begins_same}
use Rattle.oer_codec_writing.proofs.octet_string.push_octet_string.Goals as goal

pub returns-then-not-admits-clause-text : goal.returns-then-not-admits-clause-text
returns-then-not-admits-clause-text c =
    let h = counts_of c.args.held in
    let os = c.args.value.now in
    octet_string_none (sizes_of c.args.constraints.now.size) h os (ap (λ y. admits y h (length os)) (sym c.sizes-sizes.ensures) ∙ sym c.admits.ensures ∙ c.if-not-admits.true)

pub returns-clause-text : goal.returns-clause-text
returns-clause-text c =
    let h = counts_of c.args.held in
    let os = c.args.value.now in
    let new = c.push_sized.new.octets.items in
    adds_same _ _ c.args.octets.now.items new
    (octet_string_text (sizes_of c.args.constraints.now.size) h os (ap (λ y. admits y h (length os)) (sym c.sizes-sizes.ensures) ∙ sym c.admits.ensures ∙ c.if-not-admits.false))
    (subst (λ b. Adds (written (Oer.octets_form b os) 0) c.args.octets.now.items new) (c.is_fixed.ensures ∙ ap Oer.is_fixed c.sizes-sizes.ensures) c.in_ok-push_sized.ensures.text)

pub returns-in_err-push_sized-clause-kept : goal.returns-in_err-push_sized-clause-kept
returns-in_err-push_sized-clause-kept c = though_refused _ c.in_err-push_sized.ensures.kept

pub returns-then-not-admits-clause-kept : goal.returns-then-not-admits-clause-kept
returns-then-not-admits-clause-kept c = begins_same _ _ refl
