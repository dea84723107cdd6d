use Rattle.std.proofs.Common.{refl, ap, sym, subst, ◌∙◌}
use Rattle.asn1_model.specs.Numbers.{admits}
use Rattle.asn1_model.specs.Form.{written}
use Rattle.asn1_model.specs.Oer
use Rattle.asn1_schema_constraints.specs.Bounds.{counts_of}
use Rattle.asn1_schema_constraints.specs.Terms.{sizes_of}
use Rattle.asn1_values_bits.specs.BitStr.{bits_of}
use Rattle.oer_codec_writing.specs.Writing.{Adds}
use Rattle.oer_codec_writing.proofs.ScalarTexts.{adds_same}
use Rattle.oer_codec_writing.proofs.BitTexts.{bit_string_text, bit_string_none}
use Rattle.asn1_values_bits.proofs.Refused.{though_refused}
use Rattle.asn1_values_identifiers.proofs.Begins.{begins_same}
use Rattle.oer_codec_writing.proofs.bit_string.push_bit_string.Goals as goal

pub returns-then-not-admits-clause-text : goal.returns-then-not-admits-clause-text
returns-then-not-admits-clause-text c =
    let z = sizes_of c.args.constraints.now.size in
    let h = counts_of c.args.held in
    bit_string_none z h (bits_of c.args.value) (ap (admits z h) (sym c.len.ensures) ∙ ap (λ y. admits y h c.len.result) (sym c.sizes-sizes.ensures) ∙ sym c.admits.ensures ∙ c.if-not-admits.true)

pub returns-clause-text : goal.returns-clause-text
returns-clause-text c =
    let z = sizes_of c.args.constraints.now.size in
    let h = counts_of c.args.held in
    adds_same _ _ c.args.octets.now.items c.push_sized_bits.new.octets.items
    (bit_string_text z h (bits_of c.args.value) (ap (admits z h) (sym c.len.ensures) ∙
    ap (λ y. admits y h c.len.result) (sym c.sizes-sizes.ensures) ∙ sym c.admits.ensures ∙ c.if-not-admits.false))
    (subst (λ b. Adds (written (Oer.bit_string_form b (bits_of c.args.value)) 0) c.args.octets.now.items c.push_sized_bits.new.octets.items)
    (c.is_fixed.ensures ∙ ap Oer.is_fixed c.sizes-sizes.ensures) c.in_ok-push_sized_bits.ensures.text)

pub returns-in_err-push_sized_bits-clause-kept : goal.returns-in_err-push_sized_bits-clause-kept
returns-in_err-push_sized_bits-clause-kept c = though_refused _ c.in_err-push_sized_bits.ensures.kept

pub returns-then-not-admits-clause-kept : goal.returns-then-not-admits-clause-kept
returns-then-not-admits-clause-kept c = begins_same _ _ refl
