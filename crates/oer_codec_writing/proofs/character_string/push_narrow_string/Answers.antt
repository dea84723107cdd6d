use Rattle.std.proofs.Common.{subst}
use Rattle.asn1_model.specs.Form.{written}
use Rattle.asn1_model.specs.Oer
use Rattle.oer_codec_writing.specs.Writing.{Adds}
use Rattle.oer_codec_writing.proofs.LengthTexts.{adds_counted}
use Rattle.oer_codec_writing.proofs.ScalarTexts.{adds_octets, adds_counted_octets, adds_sized, adds_unsized}
use Rattle.asn1_values_bits.proofs.Refused.{though_refused}
use Rattle.oer_codec_writing.proofs.Fronts.{begins_behind_text}
use Rattle.oer_codec_writing.proofs.character_string.push_narrow_string.Goals as goal

pub returns-then-fixed-clause-text : goal.returns-then-fixed-clause-text
returns-then-fixed-clause-text g c =
    let cs = g.S.StaticPermittedAlphabet.characters c.args.value.now in
    adds_sized c.args.fixed cs c.args.octets.now.items c.push_narrow.new.octets.items c.if-fixed.true
    (adds_octets cs c.args.octets.now.items c.push_narrow.new.octets.items c.requires c.in_ok-push_narrow.ensures.text)

pub returns-clause-text : goal.returns-clause-text
returns-clause-text g c =
    let cs = g.S.StaticPermittedAlphabet.characters c.args.value.now in
    let front = subst (λ n. Adds (written (Oer.length_form n) 0) c.args.octets.now.items c.push_length.new.octets.items) c.char_count.ensures.count c.in_ok-push_length.ensures.text in
    adds_unsized c.args.fixed cs c.args.octets.now.items c.push_narrow-2.new.octets.items c.if-fixed.false
    (adds_counted_octets cs c.args.octets.now.items c.push_narrow-2.new.octets.items
    (adds_counted cs c.args.octets.now.items c.push_length.new.octets.items c.push_narrow-2.new.octets.items c.requires front c.in_ok-push_narrow-2.ensures.text))

pub returns-in_err-push_narrow-clause-kept : goal.returns-in_err-push_narrow-clause-kept
returns-in_err-push_narrow-clause-kept g c = though_refused _ c.in_err-push_narrow.ensures.kept

pub returns-in_err-push_length-clause-kept : goal.returns-in_err-push_length-clause-kept
returns-in_err-push_length-clause-kept g c = though_refused _ c.in_err-push_length.ensures.kept

pub returns-in_err-push_narrow-2-clause-kept : goal.returns-in_err-push_narrow-2-clause-kept
returns-in_err-push_narrow-2-clause-kept g c = though_refused _
    (begins_behind_text _ c.args.octets.now.items c.push_length.new.octets.items _ c.in_ok-push_length.ensures.text c.in_err-push_narrow-2.ensures.kept)
