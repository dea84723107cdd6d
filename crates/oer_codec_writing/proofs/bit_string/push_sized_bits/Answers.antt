use Rattle.std.proofs.Common.{subst, sym}
use Rattle.asn1_model.specs.Form.{written}
use Rattle.asn1_model.specs.Oer
use Rattle.asn1_values_bits.specs.BitStr.{bits_of}
use Rattle.oer_codec_writing.specs.Writing.{Adds, bits_heading}
use Rattle.oer_codec_writing.proofs.BitTexts.{adds_fixed_bits, adds_headed_bits}
use Rattle.asn1_values_bits.proofs.Refused.{though_refused}
use Rattle.oer_codec_writing.proofs.Fronts.{begins_behind_text}
use Rattle.oer_codec_writing.proofs.bit_string.push_sized_bits.Goals as goal

pub returns-then-fixed-clause-text : goal.returns-then-fixed-clause-text
returns-then-fixed-clause-text c =
    subst (λ b. Adds (written (Oer.bit_string_form b (bits_of c.args.value)) 0) c.args.octets.now.items c.push_bits.new.octets.items) (sym c.if-fixed.true)
    (adds_fixed_bits (bits_of c.args.value) c.args.octets.now.items c.push_bits.new.octets.items c.in_ok-push_bits.ensures.text)

pub returns-clause-text : goal.returns-clause-text
returns-clause-text c =
    let bs = bits_of c.args.value in
    let old = c.args.octets.now.items in
    let mid = c.push_bits_heading.new.octets.items in
    subst (λ b. Adds (written (Oer.bit_string_form b bs) 0) old c.push_bits-2.new.octets.items) (sym c.if-fixed.false)
    (adds_headed_bits bs old mid c.push_bits-2.new.octets.items (subst (λ n. Adds (written (bits_heading n) 0) old mid) c.len.ensures
    c.in_ok-push_bits_heading.ensures.text) c.in_ok-push_bits-2.ensures.text)

pub returns-in_err-push_bits-clause-kept : goal.returns-in_err-push_bits-clause-kept
returns-in_err-push_bits-clause-kept c = though_refused _ c.in_err-push_bits.ensures.kept

pub returns-in_err-push_bits_heading-clause-kept : goal.returns-in_err-push_bits_heading-clause-kept
returns-in_err-push_bits_heading-clause-kept c = though_refused _ c.in_err-push_bits_heading.ensures.kept

pub returns-in_err-push_bits-2-clause-kept : goal.returns-in_err-push_bits-2-clause-kept
returns-in_err-push_bits-2-clause-kept c =
    though_refused _ (begins_behind_text _ c.args.octets.now.items c.push_bits_heading.new.octets.items _ c.in_ok-push_bits_heading.ensures.text c.in_err-push_bits-2.ensures.kept)
