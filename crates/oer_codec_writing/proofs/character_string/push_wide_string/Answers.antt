use Rattle.std.proofs.Common.{refl, ◌≡◌, ◌*◌, rules, ap, subst, sym, ◌∙◌}
use Rattle.std.specs.Prelude.{flat_map}
use Rattle.asn1_model.specs.Form.{written}
use Rattle.asn1_model.specs.Numbers.{digits}
use Rattle.asn1_model.specs.Oer
use Rattle.oer_codec_writing.specs.Writing.{Adds}
use Rattle.oer_codec_writing.proofs.CharacterTexts.{wide_octets, length-wide}
use Rattle.oer_codec_writing.proofs.LengthTexts.{adds_counted}
use Rattle.oer_codec_writing.proofs.ScalarTexts.{adds_octets, adds_counted_octets, adds_sized, adds_unsized}
use Rattle.asn1_values_bits.proofs.Refused.{though_refused}
use Rattle.asn1_values_identifiers.proofs.Begins.{begins_same}
use Rattle.oer_codec_writing.proofs.Fronts.{begins_behind_text}
use Rattle.oer_codec_writing.proofs.character_string.push_wide_string.Goals as goal

pub returns-then-fixed-clause-text : goal.returns-then-fixed-clause-text
returns-then-fixed-clause-text g c =
    let cs = g.S.StaticPermittedAlphabet.characters c.args.value.now in
    let os = flat_map (digits 256 2) cs in
    adds_sized c.args.fixed os c.args.octets.now.items c.push_wide.new.octets.items c.if-fixed.true
    (adds_octets os c.args.octets.now.items c.push_wide.new.octets.items (wide_octets cs) c.in_ok-push_wide.ensures.text)

pub returns-clause-text : goal.returns-clause-text
returns-clause-text g c =
    let cs = g.S.StaticPermittedAlphabet.characters c.args.value.now in
    let os = flat_map (digits 256 2) cs in
    let twice : c.in-Some.length ≡ c.char_count.result * 2 = search rules in
    let long = twice ∙ ap (λ n. n * 2) c.char_count.ensures.count ∙ sym (length-wide cs) in
    let front = subst (λ n. Adds (written (Oer.length_form n) 0) c.args.octets.now.items c.push_length.new.octets.items) long c.in_ok-push_length.ensures.text in
    adds_unsized c.args.fixed os c.args.octets.now.items c.push_wide-2.new.octets.items c.if-fixed.false
    (adds_counted_octets os c.args.octets.now.items c.push_wide-2.new.octets.items
    (adds_counted os c.args.octets.now.items c.push_length.new.octets.items c.push_wide-2.new.octets.items (wide_octets cs) front c.in_ok-push_wide-2.ensures.text))

pub returns-in_err-push_wide-clause-kept : goal.returns-in_err-push_wide-clause-kept
returns-in_err-push_wide-clause-kept g c = though_refused _ c.in_err-push_wide.ensures.kept

pub returns-in_err-push_length-clause-kept : goal.returns-in_err-push_length-clause-kept
returns-in_err-push_length-clause-kept g c = though_refused _ c.in_err-push_length.ensures.kept

pub returns-in_err-push_wide-2-clause-kept : goal.returns-in_err-push_wide-2-clause-kept
returns-in_err-push_wide-2-clause-kept g c = though_refused _
    (begins_behind_text _ c.args.octets.now.items c.push_length.new.octets.items _ c.in_ok-push_length.ensures.text c.in_err-push_wide-2.ensures.kept)

pub returns-in_default-clause-kept : goal.returns-in_default-clause-kept
returns-in_default-clause-kept g c = begins_same _ _ refl
