use Rattle.std.proofs.Common.{refl, subst, sym}
use Rattle.asn1_model.specs.Form.{written}
use Rattle.asn1_model.specs.Oer
use Rattle.asn1_values_bits.proofs.Refused.{though_refused}
use Rattle.asn1_values_identifiers.specs.Groups.{contents}
use Rattle.asn1_values_identifiers.proofs.Begins.{begins_same}
use Rattle.asn1_values_identifiers.proofs.Counts.{contents_octets}
use Rattle.oer_codec_writing.specs.Writing.{Adds}
use Rattle.oer_codec_writing.proofs.Fronts.{begins_behind_text}
use Rattle.oer_codec_writing.proofs.LengthTexts.{adds_counted}
use Rattle.oer_codec_writing.proofs.ScalarTexts.{identifier_text, one_arc, adds_same}
use Rattle.oer_codec_writing.proofs.object_identifier.push_identifier.Goals as goal

pub returns-clause-text : goal.returns-clause-text
returns-clause-text c =
    let old = c.args.octets.now.items in
    let mid = c.push_length.new.octets.items in
    let new = c.push_contents.new.octets.items in
    let os = contents c.in-Some.parts.0 c.in-Some.parts.1.now in
    adds_same _ _ old new (identifier_text c.args.value.now c.in-Some.ensures.identifier)
    (subst (λ l. Adds (written (Oer.counted l) 0) old new) (sym c.in-Some.ensures.octets)
    (adds_counted os old mid new (contents_octets c.in-Some.parts.0 c.in-Some.parts.1.now)
    (subst (λ n. Adds (written (Oer.length_form n) 0) old mid) c.content_count.ensures c.in_ok-push_length.ensures.text) c.in_ok-push_contents.ensures.text))

pub returns-in_default-clause-text : goal.returns-in_default-clause-text
returns-in_default-clause-text c = one_arc c.args.value.now c.in_default.ensures.none

pub returns-in_err-push_length-clause-kept : goal.returns-in_err-push_length-clause-kept
returns-in_err-push_length-clause-kept c = though_refused _ c.in_err-push_length.ensures.kept

pub returns-in_err-push_contents-clause-kept : goal.returns-in_err-push_contents-clause-kept
returns-in_err-push_contents-clause-kept c = though_refused _
    (begins_behind_text _ c.args.octets.now.items c.push_length.new.octets.items _ c.in_ok-push_length.ensures.text c.in_err-push_contents.ensures.kept)

pub returns-in_default-clause-kept : goal.returns-in_default-clause-kept
returns-in_default-clause-kept c = begins_same _ _ refl
